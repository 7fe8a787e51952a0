use Rattle.std.proofs.Common.{◌≡◌, ◌-◌, refl, arith, rules}
use Rattle.std.proofs.lemmas.Bool.{both_ways, false≢true}
use Rattle.std.proofs.lemmas.Map.Keys.{Less-from_sorted, sorted_from_all_adjacent}
use Rattle.std.specs.declared.cmp.Ordering.TheVariants.{Less}
use Rattle.graph_limits.specs.Pairs.{pair_cmp}
use Rattle.interference.specs.Filling.{edge_at}
use Rattle.graph_limits.proofs.Pairs.{pair_total}
use Rattle.interference.proofs.edges.ascend.Goals as goal

pub returns-then-not-comes_before : goal.returns-then-not-comes_before
returns-then-not-comes_before c = (
  (λ t. absurd (false≢true t)),
  (λ sorted.
      let less : pair_cmp (edge_at c.args.edges.now (c.loop-i.i - 1)) (edge_at c.args.edges.now c.loop-i.i) ≡ Less =
      Less-from_sorted pair_cmp c.args.edges.now (c.loop-i.i - 1) c.loop-i.i (0, 0) sorted (omega arith) (omega arith) in
      absurd (both_ways c.comes_before.result (search rules) (c.comes_before.ensures.1 less))),
)

pub returns : goal.returns
returns c = (
  (λ _. sorted_from_all_adjacent pair_total c.args.edges.now (0, 0) (λ k h. c.loop-i.invariant k (omega arith))),
  (λ _. refl),
)
