-- The answer to a network and the events behind it.
use Rattle.std.specs.Prelude.{◌≡◌, ◌⊎◌, ℕ, List, Ok}
use Rattle.dimacs_col.specs.Lines.{Line, lines_of}
use Rattle.dimacs_col.specs.Reading.{IsFault}
use Rattle.interference.specs.Net.{Net, IsNetwork, IsVertex}
use Rattle.interference.specs.Making.{IsFaultOf}
use Rattle.node_api.specs.Program.{Program}
use Rattle.node_api.specs.Run.{last_state, state_at}
use Rattle.event_rule.specs.State.{State, node_of}
use Rattle.event_rule.specs.Step.{run}
use Rattle.event_texts.specs.EventLines.{network_lines}
use Rattle.event_texts.specs.Played.{IsFaultOfRun, events_in}
use Rattle.event_texts.specs.Reader.{IsFaultOfReading}
use Rattle.event_texts.specs.Reading.{Script, script_of}
use Rattle.event_texts.specs.StateText.{state_text}
use Rattle.event_texts.specs.declared.fault.EventFault.{EventFault}
use Rattle.program_texts.specs.Texts.{ProgramTexts}
use Rattle.program_texts.specs.PayloadTexts.{PayloadTexts}
use Rattle.plan_answers.specs.Answers.{LinesReadAs}
use Rattle.play_inputs.specs.Settings.{LacksRoot, OfSet}
use Rattle.play_inputs.specs.declared.fault.PlayFault.{PlayFault}
use Rattle.play_inputs.specs.declared.fault.PlayFault.TheVariants as play
use Rattle.play_inputs.specs.declared.setting.Setting.{Setting}

-- each node is in the state of the synchronous run at its pulse, whatever the order of the events: so a node at the
-- last pulse is in its last state
abbrev pub AreInStep : {S M E : Type 0} → Program S M E → Net → State S M → Type 0
AreInStep program net state = (v : ℕ) → IsVertex net v → (node_of program net state v).state
    ≡ state_at program net (node_of program net state v).view.pulse v

module _ {S M E : Type 0} (program : Program S M E) (texts : ProgramTexts S) (payloads : PayloadTexts M) where
  -- the text is that of the state to which the events in the lines lead, from the start of the program on the network
  abbrev pub IsStateReached : Net → List Line → List ℕ → Type 0
  IsStateReached net lines text = (script : Script) × (state : State S M) × (script_of lines ≡ Ok script)
      × (run program net (events_in script) ≡ Ok state) × (text ≡ state_text program texts payloads net state)
      × AreInStep program net state

  -- the answer is the text of the state that the events reach, on the network that stands before them, as it is set,
  -- and the last states of the synchronous run are what the program is for
  abbrev pub IsEventsAnswer : Setting → List ℕ → List ℕ → Type 0
  IsEventsAnswer setting input answer = LinesReadAs (network_lines (lines_of input)) (OfSet setting
      (λ net. IsNetwork net × IsStateReached net (lines_of input) answer × texts.Solves net (last_state program net)))

module _ {S M E : Type 0} (program : Program S M E) where
  -- the fault of the events in some lines: of their reading, or else of their run
  abbrev pub IsFaultOfEventLines : Net → List Line → EventFault → Type 0
  IsFaultOfEventLines net lines fault = IsFaultOfReading lines fault
      ⊎ ((script : Script) × (script_of lines ≡ Ok script) × IsFaultOfRun program net script fault)

  -- the fault of an input of `events`: of the network text before the events, or of the root, or else of the events
  abbrev pub IsFaultOfEvents : Setting → List ℕ → PlayFault → Type 0
  IsFaultOfEvents setting input (play.Col fault) = IsFault (network_lines (lines_of input)) fault
  IsFaultOfEvents setting input (play.NoRoot v) = LinesReadAs (network_lines (lines_of input)) (LacksRoot setting v)
  IsFaultOfEvents setting input (play.Net fault) =
      LinesReadAs (network_lines (lines_of input)) (OfSet setting (λ net. IsFaultOf net fault))
  IsFaultOfEvents setting input (play.Event fault) = LinesReadAs (network_lines (lines_of input))
      (OfSet setting (λ net. IsNetwork net × IsFaultOfEventLines net (lines_of input) fault))
  IsFaultOfEvents setting input play.Memory = Unit {0}
  IsFaultOfEvents setting input _ = ⊥
