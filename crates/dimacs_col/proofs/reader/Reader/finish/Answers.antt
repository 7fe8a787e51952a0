use Rattle.std.proofs.Common.{◌≡◌, ◌∙◌, Some, ap, sym, subst, get_or, ℕ}
use Rattle.std.specs.BTreeMap.{is_at}
use Rattle.std.specs.List.Sorted.{IsStrictlySortedBy}
use Rattle.std.specs.Map.{keys_of, lookup}
use Rattle.std.specs.Ordering.{nat_cmp}
use Rattle.std.proofs.lemmas.Cmp.{eq_by_cmp_equiv, nat_cmp_total}
use Rattle.std.proofs.lemmas.Map.Keys.{IsDistinct-from_sorted}
use Rattle.std.proofs.lemmas.Map.Views.{lookup-from_Contains}
use Rattle.std.specs.Set.{is_member}
use Rattle.std.proofs.lemmas.List.Elements.{Contains-get_or}
use Rattle.dimacs_col.specs.Reading.{edges_of, bars_of}
use Rattle.graph_limits.specs.Pairs.{FitsIn, IsBarOf, IsVertexOf, same_pair}
use Rattle.dimacs_col.proofs.Lists.{edge_count-is}
use Rattle.dimacs_col.proofs.Members.{same-members, member-from_Contains}
use Rattle.dimacs_col.proofs.Edges.{small-nodes}
use Rattle.dimacs_col.proofs.Identifiers.{id_in-at}
use Rattle.dimacs_col.proofs.Refused.{err_says, memory_says}
use Rattle.dimacs_col.proofs.reader.Reader.finish.Goals as goal

pub returns-clause-ok : goal.returns-clause-ok
returns-clause-ok c = λ lines knows. record {
  good = knows.good;
  nodes_are = sym knows.nodes_are ∙ c.in-Some.is;
  ids_ascend = rw c.in_ok-by_vertex.ensures.items c.by_vertex.ensures.ordered;
  ids_are = λ v. id_in-at c.in_ok-by_vertex.field-0.items v ∙ ap (lookup (is_at (nat_cmp v))) c.in_ok-by_vertex.ensures.items ∙ knows.ids_are v;
  edges_ascend = c.in_ok-into_ascending.ensures.ascending;
  bars_ascend = rw c.in_ok-into_ascending-2.ensures.items c.into_ascending-2.ensures.ascending;
  bars_are = same-members c.in_ok-into_ascending-2.field-0.items (bars_of lines) (λ bar. rw c.in_ok-into_ascending-2.ensures.items (knows.bars_are bar));
  edges_are = same-members c.in_ok-into_ascending.field-0.items (edges_of lines) (λ pair. c.in_ok-into_ascending.ensures.members pair ∙ knows.edges_are pair);
}

pub returns-clause-vertices : goal.returns-clause-vertices
returns-clause-vertices c = λ lines knows pair h.
    let ids = c.in_ok-by_vertex.field-0.items in
    let ascend : IsStrictlySortedBy nat_cmp (keys_of ids) = rw c.in_ok-by_vertex.ensures.items c.by_vertex.ensures.ordered in
    let found : lookup (is_at (nat_cmp pair.0)) ids ≡ Some pair.1 =
    lookup-from_Contains (eq_by_cmp_equiv nat_cmp_total) pair.0 pair.1 ids (IsDistinct-from_sorted nat_cmp (keys_of ids) ascend) h in
    subst (λ o. IsVertexOf o pair.0) c.in-Some.is (knows.ids_fit pair.0 pair.1 (sym (knows.ids_are pair.0) ∙
    ap (lookup (is_at (nat_cmp pair.0))) (sym c.in_ok-by_vertex.ensures.items) ∙ found))

pub returns-clause-limits : goal.returns-clause-limits
returns-clause-limits c = λ lines knows.
    let members = λ (pair : ℕ × ℕ). c.in_ok-into_ascending.ensures.members pair ∙ knows.edges_are pair in record {
      nodes_fit = small-nodes c.args.self.nodes c.in-Some.nodes c.in-Some.is knows.nodes_fit;
      edges_few = rw (edge_count-is c.in_ok-into_ascending.field-0.items lines c.in_ok-into_ascending.ensures.ascending members) knows.edges_few;
      edges_fit = λ pair h. subst (λ o. FitsIn o pair) c.in-Some.is (knows.edges_fit pair (sym (members pair) ∙
          member-from_Contains c.in_ok-into_ascending.field-0.items pair h));
    }

pub returns-clause-bars : goal.returns-clause-bars
returns-clause-bars c = λ lines knows.
    let bars = c.in_ok-into_ascending-2.field-0.items in
    let members = λ (bar : ℕ × ℕ). ap (λ keys. is_member same_pair keys bar) c.in_ok-into_ascending-2.ensures.items ∙ knows.bars_are bar in record {
      bars_fit = λ k d below. subst (λ o. IsBarOf o (get_or bars k d)) c.in-Some.is (knows.bars_fit (get_or bars k d)
          (sym (members (get_or bars k d)) ∙ member-from_Contains bars (get_or bars k d) (Contains-get_or bars k d below)));
      few = λ v. rw c.in_ok-into_ascending-2.ensures.items (knows.bars_counted.few v);
    }

pub returns-in_err-by_vertex-clause-ok : goal.returns-in_err-by_vertex-clause-ok
returns-in_err-by_vertex-clause-ok c = λ lines knows. err_says _ _ c.from_residual.result c.from_residual.ensures.1

pub returns-in_err-by_vertex-clause-vertices : goal.returns-in_err-by_vertex-clause-vertices
returns-in_err-by_vertex-clause-vertices c = λ lines knows. err_says _ _ c.from_residual.result c.from_residual.ensures.1

pub returns-in_err-by_vertex-clause-limits : goal.returns-in_err-by_vertex-clause-limits
returns-in_err-by_vertex-clause-limits c = λ lines knows. err_says _ _ c.from_residual.result c.from_residual.ensures.1

pub returns-in_err-by_vertex-clause-bars : goal.returns-in_err-by_vertex-clause-bars
returns-in_err-by_vertex-clause-bars c = λ lines knows. err_says _ _ c.from_residual.result c.from_residual.ensures.1

pub returns-in_err-by_vertex-clause-fault : goal.returns-in_err-by_vertex-clause-fault
returns-in_err-by_vertex-clause-fault c = λ lines knows. memory_says lines c.from_residual.result c.from_residual.ensures.1

pub returns-in_err-into_ascending-clause-ok : goal.returns-in_err-into_ascending-clause-ok
returns-in_err-into_ascending-clause-ok c = λ lines knows.
    err_says _ _ c.from_residual-in_err-into_ascending.result c.from_residual-in_err-into_ascending.ensures.1

pub returns-in_err-into_ascending-clause-vertices : goal.returns-in_err-into_ascending-clause-vertices
returns-in_err-into_ascending-clause-vertices c = λ lines knows.
    err_says _ _ c.from_residual-in_err-into_ascending.result c.from_residual-in_err-into_ascending.ensures.1

pub returns-in_err-into_ascending-clause-limits : goal.returns-in_err-into_ascending-clause-limits
returns-in_err-into_ascending-clause-limits c = λ lines knows.
    err_says _ _ c.from_residual-in_err-into_ascending.result c.from_residual-in_err-into_ascending.ensures.1

pub returns-in_err-into_ascending-clause-bars : goal.returns-in_err-into_ascending-clause-bars
returns-in_err-into_ascending-clause-bars c = λ lines knows.
    err_says _ _ c.from_residual-in_err-into_ascending.result c.from_residual-in_err-into_ascending.ensures.1

pub returns-in_err-into_ascending-clause-fault : goal.returns-in_err-into_ascending-clause-fault
returns-in_err-into_ascending-clause-fault c = λ lines knows.
    memory_says lines c.from_residual-in_err-into_ascending.result c.from_residual-in_err-into_ascending.ensures.1

pub returns-in_err-into_ascending-2-clause-ok : goal.returns-in_err-into_ascending-2-clause-ok
returns-in_err-into_ascending-2-clause-ok c = λ lines knows.
    err_says _ _ c.from_residual-in_err-into_ascending-2.result c.from_residual-in_err-into_ascending-2.ensures.1

pub returns-in_err-into_ascending-2-clause-vertices : goal.returns-in_err-into_ascending-2-clause-vertices
returns-in_err-into_ascending-2-clause-vertices c = λ lines knows.
    err_says _ _ c.from_residual-in_err-into_ascending-2.result c.from_residual-in_err-into_ascending-2.ensures.1

pub returns-in_err-into_ascending-2-clause-limits : goal.returns-in_err-into_ascending-2-clause-limits
returns-in_err-into_ascending-2-clause-limits c = λ lines knows.
    err_says _ _ c.from_residual-in_err-into_ascending-2.result c.from_residual-in_err-into_ascending-2.ensures.1

pub returns-in_err-into_ascending-2-clause-bars : goal.returns-in_err-into_ascending-2-clause-bars
returns-in_err-into_ascending-2-clause-bars c = λ lines knows.
    err_says _ _ c.from_residual-in_err-into_ascending-2.result c.from_residual-in_err-into_ascending-2.ensures.1

pub returns-in_err-into_ascending-2-clause-fault : goal.returns-in_err-into_ascending-2-clause-fault
returns-in_err-into_ascending-2-clause-fault c = λ lines knows.
    memory_says lines c.from_residual-in_err-into_ascending-2.result c.from_residual-in_err-into_ascending-2.ensures.1

pub returns-in_default-clause-fault : goal.returns-in_default-clause-fault
returns-in_default-clause-fault c = λ lines knows. (knows.good, sym knows.nodes_are ∙ c.in_default.is)
