use Rattle.std.proofs.Common.{length, ap, sym, ◌∙◌, arith, ℕ}
use Rattle.std.specs.Prelude.{max}
use Rattle.std.proofs.lemmas.List.{length-replicate}
use Rattle.node_api.specs.Marks.{count_marks, marks_in}
use Rattle.node_api.proofs.Counting.{count-none}
use Rattle.node_api.proofs.Words.{marks_in-zeros}
use Rattle.node_api.proofs.marks.Marks.new.Goals as goal

pub invariant_of-result : goal.invariant_of-result
invariant_of-result c =
    let zeros = c.in_ok-words.ensures.zeros in
    let n : ℕ = max 1 c.div_ceil.result in
    record {
      room = omega (arith, ap length zeros, length-replicate {A = ℕ} n 0, c.div_ceil.ensures);
      counted = sym (ap (λ l. count_marks (marks_in c.args.places l)) zeros ∙ (ap count_marks (marks_in-zeros c.args.places n) ∙ count-none c.args.places));
      small = omega (arith, c.ranges.places.fits);
    }

pub returns : goal.returns
returns c =
    record { none = ap (λ l. marks_in c.args.places l) c.in_ok-words.ensures.zeros ∙ marks_in-zeros c.args.places (max 1 c.div_ceil.result) }
