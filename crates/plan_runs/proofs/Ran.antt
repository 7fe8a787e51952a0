-- What is returned of a run of workers.
use Rattle.std.proofs.Common.{◌≡◌, ◌≢◌, Bool, true, false, ap, refl}
use Rattle.std.specs.Prelude.{if◌then◌else◌, IfErr, IfOk, Result, Ok, Err}
use Rattle.interference.specs.Net.{Net}
use Rattle.run_options.specs.Ranges.{AreInRange}
use Rattle.run_options.specs.declared.Options.{Options}
use Rattle.outcomes.specs.Outcome.{Outcome, IsOutcome, is_whole}
use Rattle.run_options.specs.declared.fault.PoolFault.TheVariants as pool
use Rattle.run_options.specs.declared.fault.RunFault.TheVariants as run
use Rattle.node_api.specs.Program.{Program}
use Rattle.plan_runs.specs.Workers.{IsFaultOfRun, MayRun, Ran, whole_after}
use Rattle.plan_runs.proofs.Working.{pool-fault}

pub ok-maps : {A B : Type 0} {X Y : A → Type 0} (r : Result A B) → ((a : A) → X a → Y a) → IfOk r X → IfOk r Y
ok-maps (Ok a) f x = f a x
ok-maps (Err b) f x = tt

pub err-maps : {A B : Type 0} {X Y : B → Type 0} (r : Result A B) → ((b : B) → X b → Y b) → IfErr r X → IfErr r Y
err-maps (Ok a) f x = tt
err-maps (Err b) f x = f b x

if-whole : {S M : Type 0} (P : Outcome S M → Type 0) (outcome : Outcome S M) (whole : Bool) → P outcome
    → IfOk (if whole then Ok outcome else Err run.Stopped) P
if-whole P outcome true is = is
if-whole P outcome false is = tt

is-whole : {S M : Type 0} (outcome : Outcome S M) (whole : Bool) → is_whole outcome ≡ whole
    → IfOk (if whole then Ok outcome else Err run.Stopped) (λ left. is_whole left ≡ true)
is-whole outcome true is = is
is-whole outcome false is = tt

-- what is returned of an outcome, by whether it is whole
pub kept : {S M : Type 0} (outcome : Outcome S M) → is_whole outcome ≡ true → whole_after (Ok outcome) ≡ Ok outcome
kept outcome whole = ap (λ b. if b then Ok outcome else Err run.Stopped) whole

pub stopped : {S M : Type 0} (outcome : Outcome S M) → is_whole outcome ≡ false → whole_after (Ok outcome) ≡ Err run.Stopped
stopped outcome whole = ap (λ b. if b then Ok outcome else Err run.Stopped) whole

pub whole-is : {S M : Type 0} (ran : Ran S M) → IfOk (whole_after ran) (λ outcome. is_whole outcome ≡ true)
whole-is (Ok outcome) = is-whole outcome (is_whole outcome) refl
whole-is (Err fault) = tt

module _ {S M E : Type 0} (program : Program S M E) (net : Net) (o : Options) (t : Bool) where
  pub may-run : (ran : Ran S M) → IfOk ran (λ _. AreInRange o)
      → IfOk ran (λ outcome. IsOutcome program net o.capacity t outcome) → IfErr ran (λ fault. fault ≡ pool.BadOptions → AreInRange o → ⊥)
      → ((AreInRange o → ⊥) → ran ≡ Err pool.BadOptions) → IfErr ran (λ fault. fault ≢ pool.StampFull) → MayRun program net o t ran
  may-run (Ok outcome) range is only first fits = (range, is)
  may-run (Err fault) range is only first fits = pool-fault o fault only (λ out. let e = first out in cc) fits

  pub whole-outcome : (ran : Ran S M) → MayRun program net o t ran
      → IfOk (whole_after ran) (λ outcome. IsOutcome program net o.capacity t outcome)
  whole-outcome (Ok outcome) may = if-whole (IsOutcome program net o.capacity t) outcome (is_whole outcome) may.1
  whole-outcome (Err fault) may = tt

  pub whole-range : (ran : Ran S M) → MayRun program net o t ran → IfOk (whole_after ran) (λ _. AreInRange o)
  whole-range (Ok outcome) may = if-whole (λ _. AreInRange o) outcome (is_whole outcome) may.0
  whole-range (Err fault) may = tt

  if-stopped : (outcome : Outcome S M) (whole : Bool) → is_whole outcome ≡ whole → AreInRange o
      → IsOutcome program net o.capacity t outcome
      → IfErr (if whole then Ok outcome else Err run.Stopped) (IsFaultOfRun program net o t)
  if-stopped outcome true e range is = tt
  if-stopped outcome false e range is = record { in_range = range; outcome = outcome; is_outcome = is; not_whole = e }

  pub whole-fault : (ran : Ran S M) → MayRun program net o t ran → IfErr (whole_after ran) (IsFaultOfRun program net o t)
  whole-fault (Ok outcome) may = if-stopped outcome (is_whole outcome) refl may.0 may.1
  whole-fault (Err fault) may = may
