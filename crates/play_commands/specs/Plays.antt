-- What may be answered to an input by nodes of a program.
use Rattle.std.specs.Prelude.{◌≢◌, Bool, ℕ, List, None, Some, Result, Ok, Err, false, true}
use Rattle.program_texts.specs.Texts.{ProgramTexts}
use Rattle.node_api.specs.Program.{Program}
use Rattle.run_options.specs.declared.Edition.TheVariants as edition
use Rattle.play_runs.specs.Ends.{IsEndsAnswer}
use Rattle.program_texts.specs.PayloadTexts.{PayloadTexts}
use Rattle.plan_runs.specs.Payloads.{colouring_payloads}
use Rattle.play_runs.specs.Workers.{IsFaultOfWorkers}
use Rattle.play_inputs.specs.Inputs.{IsFaultOfText}
use Rattle.play_answers.specs.EventAnswers.{IsEventsAnswer, IsFaultOfEvents}
use Rattle.play_answers.specs.ReplayAnswers.{IsFaultOfReplay, IsReplayAnswer}
use Rattle.play_runs.specs.RoundAnswers.{IsRoundsAnswer}
use Rattle.play_inputs.specs.declared.fault.PlayFault.{PlayFault}
use Rattle.play_inputs.specs.declared.fault.PlayFault.TheVariants.{Pool}
use Rattle.play_inputs.specs.declared.setting.Root.{Root}
use Rattle.play_inputs.specs.declared.setting.Setting.{Setting}
use Rattle.play_inputs.specs.declared.setting.Setting.TheVariants.{AsRead, Repeating, Rooted}
use Rattle.colour_program.specs.ColoursText.{colouring_texts}
use Rattle.colour_rules.specs.Program.{colouring}
use Rattle.run_options.specs.declared.fault.PoolFault.TheVariants.{BadOptions}
use Rattle.command_line.specs.declared.programs.NodeProgramName.{NodeProgramName}
use Rattle.command_line.specs.declared.programs.NodeProgramName.TheVariants.{Colouring, IndependentSet, Layers, Leader}
use Rattle.command_line.specs.declared.programs.NodeProgramName.TheVariants.{Matching, Recolouring}
use Rattle.command_line.specs.declared.programs.Shown.TheVariants as shown
use Rattle.command_line.specs.declared.play_request.Play.{Play}
use Rattle.command_line.specs.declared.play_request.Play.TheVariants.{Alone, Ends, Events, Replay, Rounds, Run}
use Rattle.independent_set.specs.Knowing.{independent_set}
use Rattle.independent_set.specs.Texts.{independent_set_texts}
use Rattle.layers.specs.Layering.{layering}
use Rattle.layers.specs.Texts.{layers_texts, layers_texts_from}
use Rattle.layers.specs.declared.layer.TheConstants.{ROOT_ID}
use Rattle.leader.specs.Election.{election}
use Rattle.leader.specs.Texts.{leader_texts}
use Rattle.play_runs.specs.Transcripts.{IsLoneTranscript, IsProgramTranscript}
use Rattle.matching.specs.Knowing.{matching}
use Rattle.matching.specs.Texts.{matching_texts}
use Rattle.recolouring.specs.Knowing.{recolouring}
use Rattle.recolouring.specs.Texts.{recolouring_texts}
use Rattle.play_commands.specs.Payloads.{independent_set_payloads, layers_payloads, leader_payloads, matching_payloads}
use Rattle.play_commands.specs.Payloads.{recolouring_payloads}

-- what starts worker threads, a line for each that nodes may be asked for
abbrev pub starts_threads : Play → Bool
starts_threads Events = false
starts_threads Replay = false
starts_threads Rounds = false
starts_threads (Run options show) = true
starts_threads (Alone show) = false
starts_threads Ends = false

-- A program, its texts and those of its payloads, and what is set about its network.
module _ {S M E : Type 0} (program : Program S M E) (texts : ProgramTexts S) (payloads : PayloadTexts M)
    (setting : Setting) where
  -- the answer to a good input, a line for each that nodes may be asked for
  abbrev pub IsGoodPlay : Play → List ℕ → List ℕ → Type 0
  IsGoodPlay Events input answer = IsEventsAnswer program texts payloads setting input answer
  IsGoodPlay Replay input answer = IsReplayAnswer program texts payloads setting input answer
  IsGoodPlay Rounds input answer = IsRoundsAnswer program texts payloads setting input answer
  IsGoodPlay (Run options shown.States) input answer = IsEndsAnswer program texts setting input answer
  IsGoodPlay (Run options shown.Transcript) input answer =
      IsProgramTranscript program payloads texts edition.Two setting input answer
  IsGoodPlay (Alone shown.States) input answer = IsEndsAnswer program texts setting input answer
  IsGoodPlay (Alone shown.Transcript) input answer = IsLoneTranscript program texts payloads setting input answer
  IsGoodPlay Ends input answer = IsEndsAnswer program texts setting input answer

  -- the fault of an input, a line for each; the options of a command line are never out of range
  abbrev pub IsFaultPlay : Play → List ℕ → PlayFault → Type 0
  IsFaultPlay Events input fault = IsFaultOfEvents program setting input fault
  IsFaultPlay Replay input fault = IsFaultOfReplay program payloads texts setting input fault
  IsFaultPlay Rounds input fault = IsFaultOfText setting input fault
  IsFaultPlay (Alone show) input fault = IsFaultOfText setting input fault
  IsFaultPlay Ends input fault = IsFaultOfText setting input fault
  IsFaultPlay (Run options shown.States) input fault =
      IsFaultOfWorkers program setting options false input fault × (fault ≢ Pool BadOptions)
  IsFaultPlay (Run options shown.Transcript) input fault =
      IsFaultOfWorkers program setting options true input fault × (fault ≢ Pool BadOptions)

  -- the bytes that nodes may answer, or the fault
  abbrev pub MayPlay : Play → List ℕ → Result (List ℕ) PlayFault → Type 0
  MayPlay play input (Ok answer) = IsGoodPlay play input answer
  MayPlay play input (Err fault) = IsFaultPlay play input fault

-- the root of the layers: this vertex, with the identifier by which they know it
abbrev pub layers_root : ℕ → Root
layers_root v = record { vertex = v; id = ROOT_ID }

-- the same of the program of a name, each a line; layers with a root are the distances from this vertex, and the
-- recolouring makes a pass and as many more
abbrev pub MayPlayNamed : NodeProgramName → Play → List ℕ → Result (List ℕ) PlayFault → Type 0
MayPlayNamed Colouring = MayPlay colouring colouring_texts colouring_payloads AsRead
MayPlayNamed Leader = MayPlay election leader_texts leader_payloads AsRead
MayPlayNamed (Layers None) = MayPlay layering layers_texts layers_payloads AsRead
MayPlayNamed (Layers (Some v)) = MayPlay layering (layers_texts_from v) layers_payloads (Rooted (layers_root v))
MayPlayNamed Matching = MayPlay matching matching_texts matching_payloads AsRead
MayPlayNamed IndependentSet = MayPlay independent_set independent_set_texts independent_set_payloads AsRead
MayPlayNamed (Recolouring again) = MayPlay recolouring recolouring_texts recolouring_payloads (Repeating again)
