-- An event whose vertex or port isn't there isn't possible. The refusal of an event is the entry's.
use Rattle.std.proofs.Common.{◌≡◌, false, Result, Ok, Err, subst, sym}
use Rattle.std.specs.Result.{IfErr, IsErrAnd}
use Rattle.interference.specs.Net.{Net}
use Rattle.node_api.specs.Program.{Program}
use Rattle.event_rule.specs.declared.event.Event.{Event}
use Rattle.event_rule.specs.declared.event.Event.TheVariants.{Pulse, Put, Take}
use Rattle.event_rule.specs.declared.refused.StepRefused.{StepRefused}
use Rattle.event_rule.specs.declared.refused.StepRefused.TheVariants.{NoSuch}
use Rattle.event_rule.specs.State.{State}
use Rattle.event_rule.specs.Step.{step}
use Rattle.event_machine.proofs.Refusing.{pulse_no_such, put_no_such, take_no_such}
use Rattle.net_core.specs.declared.refused.EntryRefused.{EntryRefused}
use Rattle.net_core.specs.declared.refused.EntryRefused.TheVariants.{Step}
use Rattle.event_rule.specs.Rows.{has_place}

pub nowhere : {S M E : Type 0} (program : Program S M E) (net : Net) (state : State S M) (event : Event) → has_place net event ≡ false
    → step program net state event ≡ Err NoSuch
nowhere program net state (Pulse v) missing = pulse_no_such program net state v missing
nowhere program net state (Put v i) missing = put_no_such program net state v i missing
nowhere program net state (Take v i) missing = take_no_such program net state v i missing

-- what a call returns is the refusal of its event
pub refused-step : {A : Type 0} (r : Result A EntryRefused) (Why : EntryRefused → Type 0) (refused : StepRefused) →
    IsErrAnd r (λ y. y ≡ Step refused) → Why (Step refused) → IfErr r Why
refused-step (Ok x) Why refused h why = absurd h
refused-step (Err y) Why refused h why = subst Why (sym h) why
