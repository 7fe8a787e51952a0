-- What playing the events of a text comes to.
use Rattle.std.specs.Prelude.{◌≡◌, ℕ, Ok, Err, List, ◌∷◌, ◌++◌, map}
use Rattle.std.specs.declared.vec.Vec.{Vec}
use Rattle.std.specs.declared.alloc.Global.{Global}
use Rattle.interference.specs.Net.{Net}
use Rattle.node_api.specs.Program.{Program}
use Rattle.event_rule.specs.declared.event.Event.{Event}
use Rattle.event_rule.specs.declared.refused.StepRefused.{StepRefused}
use Rattle.event_rule.specs.declared.refused.StepRefused.TheVariants as step_refused
use Rattle.event_rule.specs.State.{State}
use Rattle.event_rule.specs.Step.{run, step}
use Rattle.event_texts.specs.Missing.{missing_text}
use Rattle.event_texts.specs.Reading.{Script}
use Rattle.event_texts.specs.declared.fault.EventFault.{EventFault}
use Rattle.event_texts.specs.declared.fault.EventFault.TheVariants.{Memory, NotReady, NothingToPut, LinkEmpty, NoSuch}

abbrev pub events_in : Script → List Event
events_in script = map (λ row. row.1) script

-- the refusal of an event, with its line, and words behind it
abbrev pub fault_with : ℕ → Vec ℕ Global → StepRefused → EventFault
fault_with line words step_refused.NotReady = NotReady line words
fault_with line words step_refused.NothingToPut = NothingToPut line words
fault_with line words step_refused.LinkEmpty = LinkEmpty line words
fault_with line words step_refused.NoSuch = NoSuch line
fault_with line words step_refused.Memory = Memory

-- the same, with the words for what the event lacks in a state
pub record IsRefusalOfStep {S M E : Type 0} (program : Program S M E) (net : Net) (state : State S M) (line : ℕ)
    (event : Event) (reason : StepRefused) (fault : EventFault) : Type 0 where
  pub words : Vec ℕ Global
  pub says : words.items ≡ missing_text program net state event
  pub is_fault : fault ≡ fault_with line words reason

-- The events before one of them are a run, and that one isn't possible in the state that they reach: the fault has the
-- number of its line, why it isn't possible, and what it lacks.
pub record IsRefusal {S M E : Type 0} (program : Program S M E) (net : Net) (script : Script) (fault : EventFault)
    : Type 0 where
  pub before : Script
  pub line : ℕ
  pub event : Event
  pub after : Script
  pub splits : script ≡ before ++ ((line, event) ∷ after)
  pub reached : State S M
  pub is_run : run program net (events_in before) ≡ Ok reached
  pub reason : StepRefused
  pub refuses : step program net reached event ≡ Err reason
  pub is_fault : IsRefusalOfStep program net reached line event reason fault

-- the fault of events that aren't all possible: that of the first which isn't; that memory ran out says nothing
abbrev pub IsFaultOfRun : {S M E : Type 0} → Program S M E → Net → Script → EventFault → Type 0
IsFaultOfRun program net script Memory = Unit {0}
IsFaultOfRun program net script fault = IsRefusal program net script fault

-- the same of one event, in a state
abbrev pub IsFaultOfStep : {S M E : Type 0} → Program S M E → Net → State S M → ℕ → Event → StepRefused → EventFault →
    Type 0
IsFaultOfStep program net state line event reason Memory = Unit {0}
IsFaultOfStep program net state line event reason fault = IsRefusalOfStep program net state line event reason fault
