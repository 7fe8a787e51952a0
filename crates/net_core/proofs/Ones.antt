-- What one event of a list comes to, from its index on: as a step does.
use Rattle.std.proofs.Common.{◌≡◌, ℕ, Result, Ok, Err, refl, ◌∙◌}
use Rattle.event_rule.specs.declared.refused.StepRefused.{StepRefused}
use Rattle.event_rule.specs.declared.refused.RunRefused.{RunRefused}
use Rattle.event_rule.specs.Refusals.{at_index}
use Rattle.event_rule.specs.Step.{go_on}

pub made : {A : Type 0} (k : ℕ) (r : Result A StepRefused) (all : Result A RunRefused) (x : A) → go_on k r (λ next. Ok next) ≡ Ok x →
    ((y : A) → r ≡ Ok y → all ≡ Ok y) → all ≡ Ok x
made k (Ok y) all x is f = f y refl ∙ is
made k (Err why) all x is f = absurd cc

pub stopped : {A : Type 0} (k : ℕ) (r : Result A StepRefused) (all : Result A RunRefused) (refused : RunRefused) →
    go_on k r (λ next. Ok next) ≡ Err refused → ((why : StepRefused) → r ≡ Err why → all ≡ Err (at_index k why)) → all ≡ Err refused
stopped k (Ok y) all refused is f = absurd cc
stopped k (Err why) all refused is f = f why refl ∙ is
