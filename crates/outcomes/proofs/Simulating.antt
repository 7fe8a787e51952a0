-- The nodes that were gathered, and the lists of their links, are an outcome.
-- 1. The ends have met, with what the links say was put and taken (`Linked`).
-- 2. No wire was set aside for its stamp (`Fits`), so none was set aside, and each node keeps its links with the lists of the links (`kept`).
-- 3. So the nodes simulate the synchronous run, and keep their stamps (`Stamping`); the rest is read of the rows (`is_outcome`).
use Rattle.std.proofs.Common.{◌≡◌, ℕ, ◌-◌, ◌<◌, ◌≤◌, List, [], ◌++◌, length, sym, ap, ◌∙◌, subst, arith, None, Some}
use Rattle.std.specs.Prelude.{Bool, Option, All}
use Rattle.std.proofs.Math.Path.{transport}
use Rattle.std.proofs.lemmas.List.FromFn.{length-range_with_len}
use Rattle.std.proofs.lemmas.Option.{get_or_from_slice_get}
use Rattle.interference.specs.Net.{Net, IsVertex, count_of, degree_of, neighbour_of, back_port_of}
use Rattle.node_api.specs.Program.{Program}
use Rattle.alpha_laws.specs.Kept.{AllKept, NodeKept}
use Rattle.alpha_laws.proofs.Across.{over}
use Rattle.alpha_laws.proofs.Runs.{runs}
use Rattle.alpha_laws.proofs.Claims.{simulates}
use Rattle.wires.specs.declared.stamped.Stamped.{Stamped}
use Rattle.wires.specs.StampedWires.{wires_of}
use Rattle.alpha_core.specs.View.{Alpha}
use Rattle.wired_nodes.specs.declared.aside.Aside.{Aside}
use Rattle.wired_nodes.specs.declared.aside.WhyAside.TheVariants.{Refused}
use Rattle.entries.specs.declared.rows.StampedEntry.{StampedEntry}
use Rattle.entries.specs.Rows.{bare_of}
use Rattle.wired_nodes.specs.Node.{by_port, reacted_to}
use Rattle.wired_nodes.specs.Written.{IsTranscript}
use Rattle.wired_nodes.proofs.Kept.{node_same}
use Rattle.outcomes.specs.Laws.{EndsHaveMet}
use Rattle.outcomes.specs.MergedRuns.{IsRunTo}
use Rattle.outcomes.specs.Outcome.{IsOutcome, Outcome, entries_in, held_on, link_in, link_of, no_history, node_in, put_by, taken_by}
use Rattle.outcomes.proofs.Asides.{met_simulate}
use Rattle.outcomes.proofs.MetNodes.{met_written}
use Rattle.outcomes.proofs.Merged.{runs_merge}
use Rattle.port_rows.proofs.Rows.{length-nodes}
use Rattle.outcomes.proofs.Linked.{AreGathered, alpha_is, here, many, row_long, row_there, split_is, taken_here, taken_is}
use Rattle.outcomes.proofs.Stamping.{have_met}
use Rattle.outcomes.proofs.Wires.{aside_at, aside_is, asides_at, as_many_ports, came_at, came_by, came_is, node_is, sent_at, sent_by, sent_is}
use Rattle.outcomes.proofs.Wires.{wires_split, wrote_at}

module _ {S M E A X Y : Type 0} {program : Program S M E} {net : Net} {nodes : List A} {vertex : A → ℕ} {alpha : A → Alpha S M}
    {aside : A → Option (Aside M)} {counter : A → ℕ} {puts : A → List X} {put : X → List (Stamped M)} {takes : A → List Y} {taken : Y → List (Stamped M)}
    {entries : A → List (StampedEntry M)} {crossed : List (List Y)} {transcript : Bool} {outcome : Outcome S M}
    (are : AreGathered program net nodes vertex alpha aside counter puts put takes taken entries crossed transcript outcome)
    (by_refusal : All (λ a. (x : Aside M) → aside a ≡ Some x → x.why ≡ Refused) nodes) where
  met : EndsHaveMet program net (node_in program net outcome) (asides_at are) (sent_at are) (came_at are) (held_on outcome)
  met = record {
    each = λ v is.
        let n = here are v is in
        transport (λ k. NodeKept program net (n.2 k) (node_is are v is k) (by_port (sent_is are v is k))
        (by_port (reacted_to (aside_is are v is k) (came_is are v is k))))
        (are.keeps n.0);
    refused = aside_at are;
    by_refusal = λ v is x e.
        let n = here are v is in
        by_refusal (v - 1) n.0 (omega (arith, is.0, is.1, length-nodes net vertex nodes are.order)) x
        (ap aside (get_or_from_slice_get nodes (v - 1) n.0 n.0 n.1) ∙ aside_is are v is ∙ e);
    ports = as_many_ports are;
    splits = λ v i is lt. sent_by are v i ∙ wires_split are v i is lt
        ∙ ap (λ l. l ++ held_on outcome v i) (sym (came_by are (neighbour_of net v i) (back_port_of net v i) _ (sym (taken_is are v i is lt))));
  }

  none_aside : (v : ℕ) → IsVertex net v → asides_at are v ≡ None
  none_aside = (met_simulate program are.laws net are.network (node_in program net outcome) (asides_at are) (sent_at are) (came_at are) (held_on outcome) met).0

  taken_by_port : (v : ℕ) → IsVertex net v → (i : ℕ) → i < degree_of net v → by_port (came_at are v) i ≡ taken_by net outcome v i
  taken_by_port v is i lt = came_by are v i _ (taken_here are v is i lt)

  -- no wire was set aside, so each node keeps its links with what the links say
  kept : AllKept program net (node_in program net outcome) (put_by outcome) (taken_by net outcome) (held_on outcome)
  kept = record {
    each = λ v is.
        node_same program net v (node_in program net outcome v) (by_port (sent_at are v)) (by_port (came_at are v)) _ _ (λ i lt. sent_by are v i)
        (taken_by_port v is)
        (subst (λ o. NodeKept program net v (node_in program net outcome v) (by_port (sent_at are v)) (by_port (reacted_to o (came_at are v))))
        (none_aside v is) (met.each v is));
    splits = λ v i is lt.
        ap (λ l. l ++ held_on outcome v i) (over net are.network (λ w j. wires_of (link_in outcome w j).taken) v i is lt) ∙ sym (wires_split are v i is lt);
  }

  -- and its entries are those of what the links say
  pub written : (v : ℕ) → IsVertex net v
      → IsTranscript program net v transcript (node_in program net outcome v) (put_by outcome v) (taken_by net outcome v) (bare_of (entries_in outcome v))
  written v is =
      let wrote : IsTranscript program net v transcript (node_in program net outcome v) (by_port (sent_at are v)) (by_port (came_at are v))
      (bare_of (entries_in outcome v)) =
      subst (λ o. IsTranscript program net v transcript (node_in program net outcome v) (by_port (sent_at are v))
      (by_port (reacted_to o (came_at are v))) (bare_of (entries_in outcome v))) (none_aside v is) (wrote_at are v is) in
      record {
        written = λ yes.
            let all = wrote.written yes in
            record {
              run = all.run;
              puts_are = λ i lt. all.puts_are i lt ∙ sent_by are v i;
              takes_are = λ i lt. all.takes_are i lt ∙ taken_by_port v is i lt;
              pulses_are = all.pulses_are;
            };
        none = wrote.none;
      }

  pub is_outcome : (capacity : ℕ) → All (λ row. All (λ h. length h.held ≤ capacity) row) outcome.links
      → ∥ IsRunTo program net (node_in program net outcome) (λ v i. link_of (link_in outcome v i)) ∥₁
      → IsOutcome program net capacity transcript outcome
  is_outcome capacity room ran = record {
    each_once = are.vertices_are ∙ are.order;
    last = λ v is. ap (λ a. a.last) (alpha_is are v is) ∙ are.last (here are v is).0;
    rows = many are ∙ length-nodes net vertex nodes are.order ∙ sym (length-range_with_len 1 (count_of net));
    row = row_long are;
    splits = split_is are;
    room = λ v i is lt. room (v - 1) [] (row_there are v is) i no_history (omega (arith, lt, row_long are v is));
    simulates = simulates are.network (runs program are.laws net are.network) kept;
    written = written;
    rises = λ yes. (met_written program net are.network _ _ _ _ _ (entries_in outcome) (have_met are written yes)).1;
    put_are = λ yes v i is. ((have_met are written yes).keeps v is).put_are i;
    carries = λ yes. (met_written program net are.network _ _ _ _ _ (entries_in outcome) (have_met are written yes)).0.carried;
    merged = λ yes. runs_merge program net are.network outcome _ _ (have_met are written yes) (λ v i is lt. sym (taken_is are v i is lt));
    is_run = ran;
  }
