-- The faults of runs of worker threads on the network of a text, as a command sets it.
use Rattle.std.specs.Prelude.{ℕ, Bool, List}
use Rattle.interference.specs.Net.{IsNetwork}
use Rattle.node_api.specs.Program.{Program}
use Rattle.run_options.specs.declared.Options.{Options}
use Rattle.plan_answers.specs.Answers.{ReadsAs}
use Rattle.plan_runs.specs.Workers.{HasStopped, IsFaultOfPool}
use Rattle.play_inputs.specs.Inputs.{IsFaultOfText}
use Rattle.play_inputs.specs.Settings.{OfSet}
use Rattle.play_inputs.specs.declared.setting.Setting.{Setting}
use Rattle.play_inputs.specs.declared.fault.PlayFault.{PlayFault}
use Rattle.play_inputs.specs.declared.fault.PlayFault.TheVariants as play

-- The fault of an input of `run`, with a transcript or without: that of the text or of the root, or else that of the
-- run of the program on the network as it is set.
abbrev pub IsFaultOfWorkers : {S M E : Type 0} → Program S M E → Setting → Options → Bool → List ℕ → PlayFault → Type 0
IsFaultOfWorkers program setting options transcript input (play.Pool fault) =
    ReadsAs input (OfSet setting IsNetwork) × IsFaultOfPool options fault
IsFaultOfWorkers program setting options transcript input play.Stopped =
    ReadsAs input (OfSet setting (λ net. IsNetwork net × HasStopped program net options transcript))
IsFaultOfWorkers program setting options transcript input fault = IsFaultOfText setting input fault
