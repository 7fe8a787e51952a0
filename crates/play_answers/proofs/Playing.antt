-- From what is known of a network text and of the events behind it to what `events` may answer.
use Rattle.std.proofs.Common.{◌≡◌, inl, inr, ℕ, Ok, List, subst, sym}
use Rattle.dimacs_col.specs.Lines.{lines_of}
use Rattle.interference.specs.Net.{IsNetwork, Net}
use Rattle.node_api.specs.Program.{Program}
use Rattle.node_api.specs.Run.{last_state}
use Rattle.event_rule.specs.State.{State}
use Rattle.event_rule.specs.Step.{run}
use Rattle.dimacs_col.proofs.Blank.{fault-of, graph-of}
use Rattle.event_texts.specs.EventLines.{AreNetworkLines, event_words, network_lines}
use Rattle.event_texts.specs.Played.{IsFaultOfRun, events_in}
use Rattle.event_texts.specs.Reader.{IsFaultOfReading}
use Rattle.event_texts.specs.Reading.{Script, script_of}
use Rattle.event_texts.specs.StateText.{state_text}
use Rattle.event_texts.specs.declared.fault.EventFault.{EventFault}
use Rattle.program_texts.specs.Texts.{ProgramTexts}
use Rattle.program_texts.specs.PayloadTexts.{PayloadTexts}
use Rattle.plan_answers.specs.Answers.{LinesReadAs, ReadsAs, network_with}
use Rattle.play_inputs.specs.Inputs.{IsFaultOfText}
use Rattle.play_answers.specs.EventAnswers.{AreInStep, IsEventsAnswer, IsFaultOfEventLines, IsFaultOfEvents, IsStateReached}
use Rattle.play_inputs.specs.declared.fault.PlayFault.{PlayFault}
use Rattle.play_inputs.specs.Settings.{OfSet}
use Rattle.play_inputs.specs.declared.fault.PlayFault.TheVariants as play
use Rattle.play_inputs.specs.declared.setting.Setting.{Setting}
use Rattle.play_inputs.proofs.Settings.{set-more}

-- what is known of the network of a text
abbrev Reads : Setting → List ℕ → Net → Type 0
Reads setting network net = ReadsAs network (OfSet setting (λ read. IsNetwork read × (net ≡ read)))

module _ {S M E : Type 0} (program : Program S M E) (setting : Setting) where
  pub fault-network : (input network : List ℕ) (fault : PlayFault) → AreNetworkLines (lines_of input) (lines_of network) →
      IsFaultOfText setting network fault → IsFaultOfEvents program setting input fault
  fault-network input network (play.Col fault) are is = fault-of event_words (lines_of input) (lines_of network) fault are is
  fault-network input network (play.NoRoot v) are (graph, reads, is) = (graph, graph-of event_words (lines_of input) (lines_of network) graph are reads, is)
  fault-network input network (play.Net fault) are (graph, reads, is) = (graph, graph-of event_words (lines_of input) (lines_of network) graph are reads, is)
  fault-network input network (play.Pool fault) are is = absurd is
  fault-network input network (play.Event fault) are is = absurd is
  fault-network input network (play.Replay fault) are is = absurd is
  fault-network input network play.Stopped are is = absurd is
  fault-network input network play.Memory are is = tt

  -- what is known of the network that was read, and of the lines behind it
  behind : (input network : List ℕ) (net : Net) (Q : Net → Type 0) → AreNetworkLines (lines_of input) (lines_of network) →
      Reads setting network net → (IsNetwork net → Q net) → LinesReadAs (network_lines (lines_of input)) (OfSet setting Q)
  behind input network net Q are (graph, reads, is) so = (
    graph,
    graph-of event_words (lines_of input) (lines_of network) graph are reads,
    set-more setting (λ read. IsNetwork read × (net ≡ read)) Q
        (λ read both. subst Q both.1 (so (subst (λ n. IsNetwork n) (sym both.1) both.0))) (network_with graph) is,
  )

  pub fault-reading : (input network : List ℕ) (net : Net) (fault : EventFault) → AreNetworkLines (lines_of input) (lines_of network) →
      Reads setting network net → IsFaultOfReading (lines_of input) fault → IsFaultOfEvents program setting input (play.Event fault)
  fault-reading input network net fault are reads is =
      behind input network net (λ read. IsNetwork read × IsFaultOfEventLines program read (lines_of input) fault) are reads (λ ok. (ok, inl is))

  pub fault-run : (input network : List ℕ) (net : Net) (script : Script) (fault : EventFault) → AreNetworkLines (lines_of input) (lines_of network) →
      Reads setting network net → script_of (lines_of input) ≡ Ok script → IsFaultOfRun program net script fault →
      IsFaultOfEvents program setting input (play.Event fault)
  fault-run input network net script fault are reads read is =
      behind input network net (λ known. IsNetwork known × IsFaultOfEventLines program known (lines_of input) fault) are reads
      (λ ok. (ok, inr (script, read, is)))

  module _ (texts : ProgramTexts S) (payloads : PayloadTexts M) where
    pub reached : (input network text : List ℕ) (net : Net) (script : Script) (state : State S M) →
        AreNetworkLines (lines_of input) (lines_of network) →
        Reads setting network net → script_of (lines_of input) ≡ Ok script → run program net (events_in script) ≡ Ok state →
        text ≡ state_text program texts payloads net state → (IsNetwork net → AreInStep program net state) →
        ((net : Net) → IsNetwork net → texts.Solves net (last_state program net)) →
        IsEventsAnswer program texts payloads setting input text
    reached input network text net script state are reads read ran is in_step solves =
        behind input network net (λ known. IsNetwork known × IsStateReached program texts payloads known (lines_of input) text
        × texts.Solves known (last_state program known)) are reads
        (λ ok. (ok, (script, state, read, ran, is, in_step ok), solves net ok))
