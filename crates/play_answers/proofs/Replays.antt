-- From what is known of a network text and of the transcript behind it to what `replay` may answer.
use Rattle.std.proofs.Common.{◌≡◌, ℕ, List, Ok, subst, sym}
use Rattle.dimacs_col.specs.Lines.{Line, lines_of}
use Rattle.interference.specs.Net.{IsNetwork, Net}
use Rattle.node_api.specs.Program.{Program}
use Rattle.node_api.specs.Run.{last_state}
use Rattle.event_rule.specs.State.{State}
use Rattle.event_rule.specs.Step.{run}
use Rattle.event_rule.specs.declared.event.Event.{Event}
use Rattle.dimacs_col.proofs.Blank.{fault-of, graph-of}
use Rattle.event_texts.specs.StateText.{state_text}
use Rattle.transcripts.specs.Behind.{AreNetworkLines, network_lines, transcript_word}
use Rattle.transcripts.specs.Editions.{One, Two}
use Rattle.program_texts.specs.Texts.{ProgramTexts}
use Rattle.program_texts.specs.PayloadTexts.{PayloadTexts}
use Rattle.plan_answers.specs.Answers.{LinesReadAs, ReadsAs, network_with}
use Rattle.play_inputs.specs.Inputs.{IsFaultOfText}
use Rattle.play_answers.specs.EventAnswers.{AreInStep}
use Rattle.play_inputs.specs.Settings.{OfSet}
use Rattle.play_answers.specs.ReplayAnswers.{IsFaultOfNamed, IsFaultOfReplay, IsOfProgram, IsReplayAnswer, IsReplayed}
use Rattle.play_inputs.specs.declared.fault.PlayFault.{PlayFault}
use Rattle.play_inputs.specs.declared.fault.PlayFault.TheVariants as play
use Rattle.play_inputs.specs.declared.replays.ReplayFault.{ReplayFault}
use Rattle.play_inputs.specs.declared.setting.Setting.{Setting}
use Rattle.play_inputs.proofs.Settings.{set-more}

abbrev Reads : Setting → List ℕ → Net → Type 0
Reads setting network net = ReadsAs network (OfSet setting (λ read. IsNetwork read × (net ≡ read)))

-- the state of a replay is one that events reach
pub in-step : {S M E : Type 0} (program : Program S M E) (payloads : PayloadTexts M) (net : Net) (state : State S M) (lines : List Line) →
    IsReplayed program payloads net lines state →
    ((events : List Event) → run program net events ≡ Ok state → AreInStep program net state) → AreInStep program net state
in-step program payloads net state lines (One read, is, leads) made = made leads.events leads.is_run
in-step program payloads net state lines (Two read, is, leads) made = made leads.replay.replay.events leads.replay.replay.is_run

module _ {S M E : Type 0} (program : Program S M E) (payloads : PayloadTexts M)
    (setting : Setting) where
  pub fault-network : (texts : ProgramTexts S) (input network : List ℕ) (fault : PlayFault) → AreNetworkLines (lines_of input) (lines_of network) →
      IsFaultOfText setting network fault → IsFaultOfReplay program payloads texts setting input fault
  fault-network texts input network (play.Col fault) are is = fault-of transcript_word (lines_of input) (lines_of network) fault are is
  fault-network texts input network (play.NoRoot v) are (graph, reads, is) =
      (graph, graph-of transcript_word (lines_of input) (lines_of network) graph are reads, is)
  fault-network texts input network (play.Net fault) are (graph, reads, is) =
      (graph, graph-of transcript_word (lines_of input) (lines_of network) graph are reads, is)
  fault-network texts input network (play.Pool fault) are is = absurd is
  fault-network texts input network (play.Event fault) are is = absurd is
  fault-network texts input network (play.Replay fault) are is = absurd is
  fault-network texts input network play.Stopped are is = absurd is
  fault-network texts input network play.Memory are is = tt

  -- what is known of the network that was read, and of the lines behind it
  behind : (input network : List ℕ) (net : Net) (Q : Net → Type 0) → AreNetworkLines (lines_of input) (lines_of network) →
      Reads setting network net → (IsNetwork net → Q net) → LinesReadAs (network_lines (lines_of input)) (OfSet setting Q)
  behind input network net Q are (graph, reads, is) so = (
    graph,
    graph-of transcript_word (lines_of input) (lines_of network) graph are reads,
    set-more setting (λ read. IsNetwork read × (net ≡ read)) Q
        (λ read both. subst Q both.1 (so (subst (λ n. IsNetwork n) (sym both.1) both.0))) (network_with graph) is,
  )

  pub fault-transcript : (texts : ProgramTexts S) (input network : List ℕ) (net : Net) (fault : ReplayFault) →
      AreNetworkLines (lines_of input) (lines_of network) → Reads setting network net →
      IsFaultOfNamed program payloads texts.name net (lines_of input) fault →
      IsFaultOfReplay program payloads texts setting input (play.Replay fault)
  fault-transcript texts input network net fault are reads is =
      behind input network net
      (λ known. IsNetwork known × IsFaultOfNamed program payloads texts.name known (lines_of input) fault) are reads
      (λ ok. (ok, is))

  pub reached : (texts : ProgramTexts S) (input network text : List ℕ) (net : Net) (state : State S M) → AreNetworkLines (lines_of input) (lines_of network) →
      Reads setting network net → IsReplayed program payloads net (lines_of input) state → text ≡ state_text program texts payloads net state →
      (IsNetwork net → AreInStep program net state) → ((net : Net) → IsNetwork net → texts.Solves net (last_state program net)) →
      IsOfProgram texts.name (lines_of input) → IsReplayAnswer program texts payloads setting input text
  reached texts input network text net state are reads played is in_step solves named =
      behind input network net
      (λ known. IsNetwork known × ((state : State S M) × IsReplayed program payloads known (lines_of input) state
      × (text ≡ state_text program texts payloads known state) × AreInStep program known state)
      × texts.Solves known (last_state program known) × IsOfProgram texts.name (lines_of input)) are reads
      (λ ok. (ok, (state, played, is, in_step ok), solves net ok, named))
