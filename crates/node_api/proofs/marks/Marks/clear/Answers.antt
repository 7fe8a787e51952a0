use Rattle.std.proofs.Common.{◌≡◌, ℕ, length, replicate, false, ap, sym, ◌∙◌, arith}
use Rattle.std.proofs.lemmas.List.{length-replicate}
use Rattle.node_api.specs.Marks.{count_marks, marks_in}
use Rattle.node_api.proofs.Counting.{count-none}
use Rattle.node_api.proofs.Words.{length-marks_in, marks_in-zeros}
use Rattle.node_api.proofs.marks.Marks.clear.Goals as goal

pub invariant_of-self : goal.invariant_of-self
invariant_of-self c =
    let a = c.self.inside in
    let n : ℕ = length a.words in
    let zeros = c.clear.ensures.zeros in
    record {
      room = omega (arith, c.self.invariant.room, ap length zeros, length-replicate {A = ℕ} n 0);
      counted = sym (ap (λ l. count_marks (marks_in a.places l)) zeros ∙ (ap count_marks (marks_in-zeros a.places n) ∙ count-none a.places));
      small = c.self.invariant.small;
    }

pub returns : goal.returns
returns c =
    let a = c.self.inside in
    let n : ℕ = length a.words in
    let size : a.places ≡ length c.args.self.now = sym (length-marks_in a.places a.words) ∙ ap length c.self.view_is in
    record { none = ap (λ l. marks_in a.places l) c.clear.ensures.zeros ∙ (marks_in-zeros a.places n ∙ ap (λ k. replicate k false) size) }
