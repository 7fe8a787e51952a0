-- The plan: while the bars fit (FitSoFar), one that doesn't, or one too many of a vertex, refutes the whole list.
use Rattle.std.proofs.Common.{◌≡◌, ◌==◌, ◌+◌, ◌≤◌, Some, cond, sym, refl, rules, subst, arith}
use Rattle.std.proofs.lemmas.Bool.{both_ways, false≢true, eq-eqb}
use Rattle.std.proofs.lemmas.List.{take_all}
use Rattle.std.proofs.lemmas.List.Elements.{All-same}
use Rattle.std.proofs.lemmas.Map.Keys.{sorted_from_all_adjacent}
use Rattle.std.specs.declared.cmp.Ordering.TheVariants.{Less}
use Rattle.graph_limits.specs.Pairs.{IsBarOf, bars_at, pair_cmp}
use Rattle.graph_limits.specs.declared.limits.TheConstants.{MAX_BARS}
use Rattle.graph_limits.proofs.Pairs.{pair_total}
use Rattle.interference.proofs.BarCounts.{bar_at, eq-no, next-after, run-is, run-within, fit-more}
use Rattle.interference.proofs.bars.bars_fit.Goals.{then-not-is_bar-via-then-not-is_bar, then-not-is_bar-via-else-not-is_bar+then-not-comes_before}
use Rattle.interference.proofs.bars.bars_fit.Goals.{then-next-last, else-next-last}
use Rattle.interference.proofs.bars.bars_fit.Goals as goal

pub returns-then-not-is_bar : goal.returns-then-not-is_bar
returns-then-not-is_bar c = (
  (λ t. absurd (false≢true t)),
  (λ fit.
      let is = fit.bars_fit c.loop-bar.bar-index (0, 0) (omega arith) in
      elim c.then-not-is_bar.branch [
        | then-not-is_bar-via-then-not-is_bar w ↦ absurd (both_ways c.is_bar.result (search rules) (c.is_bar.ensures.1 is))
        | then-not-is_bar-via-else-not-is_bar+then-not-comes_before w ↦
            let after = next-after c.args.nodes c.args.bars.now c.loop-bar.last c.loop-bar.count c.loop-bar.bar-index c.loop-bar.invariant (omega arith)
            fit.ascending is.0.0 in
            absurd (both_ways w.comes_before.result (search rules) (w.comes_before.ensures.1 (rw c.from.ensures after)))
      ]),
)

pub overflow_add-count : goal.overflow_add-count
overflow_add-count c = omega (arith, c.loop-bar.invariant.count_is, c.loop-bar.invariant.few c.loop-bar.last.0)

pub returns-then-count-gt-MAX_BARS : goal.returns-then-count-gt-MAX_BARS
returns-then-count-gt-MAX_BARS c = (
  (λ t. absurd (false≢true t)),
  (λ fit.
      let last = c.loop-bar.last in
      let bar = bar_at c.args.bars.now c.loop-bar.bar-index in
      let after : pair_cmp last bar ≡ Less = rw c.from.ensures at (c.comes_before.ensures.0 (search rules)) in
      let is : c.if-next-last.count ≡ cond (bar.0 == last.0) (c.loop-bar.count + 1) 1 = elim c.if-next-last.branch [
        | then-next-last w ↦ rw (w.count-is, eq-eqb bar.0 last.0 w.if-next-last.true) refl
        | else-next-last w ↦ rw (w.count-is, eq-no bar.0 last.0 w.if-next-last.false) refl
      ] in
      let counted = run-is c.args.nodes c.args.bars.now last c.loop-bar.count c.loop-bar.bar-index c.loop-bar.invariant (omega arith) c.if-next-last.count after
      is in
      let within : c.if-next-last.count ≤ MAX_BARS = run-within c.args.nodes c.args.bars.now last c.loop-bar.count c.loop-bar.bar-index
      c.loop-bar.invariant (omega arith) c.if-next-last.count counted (fit.few bar.0) in
      absurd (omega arith)),
)

pub loop-bar-preserved : goal.loop-bar-preserved
loop-bar-preserved c =
    let last = c.loop-bar.last in
    let bar = bar_at c.args.bars.now c.loop-bar.bar-index in
    let after : pair_cmp last bar ≡ Less = rw c.from.ensures at (c.comes_before.ensures.0 (search rules)) in
    let is : c.if-next-last.count ≡ cond (bar.0 == last.0) (c.loop-bar.count + 1) 1 = elim c.if-next-last.branch [
      | then-next-last w ↦ rw (w.count-is, eq-eqb bar.0 last.0 w.if-next-last.true) refl
      | else-next-last w ↦ rw (w.count-is, eq-no bar.0 last.0 w.if-next-last.false) refl
    ] in
    let counted = run-is c.args.nodes c.args.bars.now last c.loop-bar.count c.loop-bar.bar-index c.loop-bar.invariant (omega arith) c.if-next-last.count after
    is in
    rw c.from.ensures (fit-more c.args.nodes c.args.bars.now last c.loop-bar.count c.loop-bar.bar-index c.loop-bar.invariant (omega arith)
    c.if-next-last.count (c.is_bar.ensures.0 (search rules)) after counted (omega arith))

pub returns : goal.returns
returns c =
    let all = take_all c.loop-bar.bar-index c.args.bars.now (omega arith) in (
      (λ _. record {
        bars_fit = All-same (IsBarOf (Some c.args.nodes)) c.args.bars.now _ (sym all) c.loop-bar.invariant.are;
        few = λ v. subst (λ bars. bars_at bars v ≤ MAX_BARS) all (c.loop-bar.invariant.few v);
        ascending = sorted_from_all_adjacent pair_total c.args.bars.now (0, 0) (λ k h. c.loop-bar.invariant.ascending k (omega arith));
      }),
      (λ _. refl),
    )
