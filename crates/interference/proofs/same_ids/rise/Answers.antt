use Rattle.std.proofs.Common.{◌≡◌, ◌+◌, ◌-◌, ⊎_elim, refl, arith}
use Rattle.std.proofs.lemmas.Bool.{cases_eq, false≢true}
use Rattle.interference.proofs.same_ids.rise.Goals as goal

pub returns-then-ids-i : goal.returns-then-ids-i
returns-then-ids-i c = (
  (λ t. absurd (false≢true t)),
  (λ rises.
      let next : c.loop-i.i - 1 + 1 ≡ c.loop-i.i = omega arith in
      let less = rw next at (rises (c.loop-i.i - 1) (omega arith)) in
      absurd (omega arith)),
)

pub loop-i-preserved : goal.loop-i-preserved
loop-i-preserved c = λ k h. ⊎_elim
    (λ (last : k + 1 ≡ c.loop-i.i).
    let here : c.loop-i.i - 1 ≡ k = omega arith in
    let next : c.loop-i.i - 1 + 1 ≡ c.loop-i.i = omega arith in
    rw (← here, next) (omega arith))
    (λ before. c.loop-i.invariant k (omega arith))
    (cases_eq (k + 1) c.loop-i.i)

pub returns : goal.returns
returns c = ((λ _ k h. c.loop-i.invariant k (omega arith)), (λ _. refl))
