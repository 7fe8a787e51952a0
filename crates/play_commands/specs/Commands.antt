-- What `forestplay` may be asked for, and may answer.
use Rattle.play_inputs.specs.Faults.{fault_text}
use Rattle.play_inputs.specs.declared.fault.PlayFault.{PlayFault}
use Rattle.command_line.specs.Asked.{play_request_of}
use Rattle.command_line.specs.declared.executable.Executable.TheVariants.{Forestplay}
use Rattle.command_line.specs.declared.play_request.PlayRequest.{PlayRequest}
use Rattle.serving.specs.CommandSet.{CommandSet}
use Rattle.play_commands.specs.Plays.{MayPlayNamed, starts_threads}

abbrev pub forestplay_commands : CommandSet PlayRequest PlayFault
forestplay_commands = record {
  executable = Forestplay;
  request_of = play_request_of;
  starts_threads = λ request. starts_threads request.play;
  MayAnswer = λ request. MayPlayNamed request.program request.play;
  fault_text = fault_text;
}
