-- What a command of `forestplan` may answer to the bytes of its input.
use Rattle.std.specs.Prelude.{◌≢◌, Bool, ℕ, List, Result, Ok, Err, false, true}
use Rattle.run_options.specs.declared.fault.PoolFault.TheVariants.{BadOptions}
use Rattle.plan_answers.specs.Faults.{fault_text}
use Rattle.plan_answers.specs.Answers.{IsFaultOfText, IsForestsAnswer, IsPlainAnswer}
use Rattle.colour_rules.specs.Program.{colouring}
use Rattle.plan_runs.specs.Payloads.{colouring_payloads}
use Rattle.plan_runs.specs.Transcripts.{IsTranscriptAnswer}
use Rattle.plan_answers.specs.Verdicts.{IsCheckAnswer, IsFaultOfCheck}
use Rattle.plan_runs.specs.Workers.{IsFaultOfWorkers}
use Rattle.plan_answers.specs.declared.fault.PlanFault.{PlanFault}
use Rattle.plan_answers.specs.declared.fault.PlanFault.TheVariants.{Pool}
use Rattle.command_line.specs.Asked.{request_of}
use Rattle.command_line.specs.declared.executable.Executable.TheVariants.{Forestplan}
use Rattle.command_line.specs.declared.request.Request.{Request}
use Rattle.command_line.specs.declared.request.Request.TheVariants.{Check, Forests, Plain, Plan, Transcript}
use Rattle.serving.specs.CommandSet.{CommandSet}

-- the answer of each command to a good input, a line for each
abbrev pub IsGoodAnswer : Request → List ℕ → List ℕ → Type 0
IsGoodAnswer Forests input answer = IsForestsAnswer input answer
IsGoodAnswer Plain input answer = IsPlainAnswer input answer
IsGoodAnswer (Plan options) input answer = IsPlainAnswer input answer
IsGoodAnswer (Transcript options edition) input answer =
    IsTranscriptAnswer colouring colouring_payloads edition input answer
IsGoodAnswer Check input answer = IsCheckAnswer input answer

-- the fault of an input for each command, a line for each; the options of a command line are never out of range
abbrev pub IsFaultAnswer : Request → List ℕ → PlanFault → Type 0
IsFaultAnswer Forests input fault = IsFaultOfText input fault
IsFaultAnswer Plain input fault = IsFaultOfText input fault
IsFaultAnswer (Plan options) input fault =
    IsFaultOfWorkers colouring options false input fault × (fault ≢ Pool BadOptions)
IsFaultAnswer (Transcript options edition) input fault =
    IsFaultOfWorkers colouring options true input fault × (fault ≢ Pool BadOptions)
IsFaultAnswer Check input fault = IsFaultOfCheck input fault

-- the bytes that a command may answer, or its fault
abbrev pub MayAnswer : Request → List ℕ → Result (List ℕ) PlanFault → Type 0
MayAnswer request input (Ok answer) = IsGoodAnswer request input answer
MayAnswer request input (Err fault) = IsFaultAnswer request input fault

-- the commands that start worker threads, a line for each command
abbrev pub starts_threads : Request → Bool
starts_threads Forests = false
starts_threads Plain = false
starts_threads (Plan options) = true
starts_threads (Transcript options edition) = true
starts_threads Check = false

abbrev pub forestplan_commands : CommandSet Request PlanFault
forestplan_commands = record {
  executable = Forestplan;
  request_of = request_of;
  starts_threads = starts_threads;
  MayAnswer = MayAnswer;
  fault_text = fault_text;
}
