-- A script that is played event by event: one event more (play-next), and the fault at one that isn't possible (fault-reported).
use Rattle.std.proofs.Common.{◌≡◌, ◌≢◌, ◌+◌, ◌<◌, ◌∙◌, ℕ, suc, [], ◌∷◌, take, drop, length, get_or, Ok, Err, ap, arith}
use Rattle.std.proofs.lemmas.List.{map-append}
use Rattle.interference.specs.Net.{Net}
use Rattle.node_api.specs.Program.{Program}
use Rattle.event_rule.specs.declared.event.Event.{Event}
use Rattle.event_rule.specs.declared.refused.StepRefused.{StepRefused}
use Rattle.event_rule.specs.declared.refused.StepRefused.TheVariants as step_refused
use Rattle.event_rule.specs.State.{State}
use Rattle.event_rule.specs.Step.{run, step}
use Rattle.event_rule.proofs.Parts.{take-split}
use Rattle.event_rule.proofs.Reached.{run_push}
use Rattle.event_texts.specs.Played.{IsFaultOfRun, IsFaultOfStep, IsRefusal, IsRefusalOfStep, events_in, fault_with}
use Rattle.event_texts.specs.Reading.{Script}
use Rattle.event_texts.specs.declared.fault.EventFault.{EventFault}
use Rattle.event_texts.specs.declared.fault.EventFault.TheVariants.{LinkEmpty, Memory, NoEvent, NoSuch, NotReady, NothingToPut}

module _ {S M E : Type 0} (program : Program S M E) (net : Net) where
  -- the event at an index of a script, and the state that the events before it reach
  module _ (script : Script) (i : ℕ) (row : ℕ × Event) (lt : i < length script) (here : row ≡ get_or script i row) (state : State S M)
      (before : run program net (events_in (take i script)) ≡ Ok state) where
    pub play-next : (next : State S M) → step program net state row.1 ≡ Ok next → run program net (events_in (take (i + 1) script)) ≡ Ok next
    play-next next made =
        let more : i + 1 ≡ suc i = omega arith in
        ap (λ n. run program net (events_in (take n script))) more
        ∙ ap (λ l. run program net (events_in l)) (take-split script i row lt here).0
        ∙ ap (λ l. run program net l) (map-append (λ r. r.1) (take i script) (row ∷ []))
        ∙ run_push program net (events_in (take i script)) row.1 state next before made

    refusal : (reason : StepRefused) (fault : EventFault) → step program net state row.1 ≡ Err reason →
        IsRefusalOfStep program net state row.0 row.1 reason fault → IsRefusal program net script fault
    refusal reason fault refuses is = record {
      before = take i script;
      line = row.0;
      event = row.1;
      after = drop (suc i) script;
      splits = (take-split script i row lt here).1;
      reached = state;
      is_run = before;
      reason = reason;
      refuses = refuses;
      is_fault = is;
    }

    pub fault-reported : (reason : StepRefused) (fault : EventFault) → (reason ≢ step_refused.Memory → step program net state row.1 ≡ Err reason) →
        IsFaultOfStep program net state row.0 row.1 reason fault → IsFaultOfRun program net script fault
    fault-reported reason Memory refuses is = tt
    fault-reported reason (NoEvent n) refuses is =
        refusal reason (NoEvent n) (refuses (λ e. let bad : NoEvent n ≡ Memory = is.is_fault ∙ ap (fault_with row.0 is.words) e in cc)) is
    fault-reported reason (NotReady n words) refuses is =
        refusal reason (NotReady n words) (refuses (λ e. let bad : NotReady n words ≡ Memory = is.is_fault ∙ ap (fault_with row.0 is.words) e in cc)) is
    fault-reported reason (NothingToPut n words) refuses is =
        refusal reason (NothingToPut n words) (refuses (λ e. let bad : NothingToPut n words ≡ Memory = is.is_fault ∙ ap (fault_with row.0 is.words) e in cc)) is
    fault-reported reason (LinkEmpty n words) refuses is =
        refusal reason (LinkEmpty n words) (refuses (λ e. let bad : LinkEmpty n words ≡ Memory = is.is_fault ∙ ap (fault_with row.0 is.words) e in cc)) is
    fault-reported reason (NoSuch n) refuses is =
        refusal reason (NoSuch n) (refuses (λ e. let bad : NoSuch n ≡ Memory = is.is_fault ∙ ap (fault_with row.0 is.words) e in cc)) is
