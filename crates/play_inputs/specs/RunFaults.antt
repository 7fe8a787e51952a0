-- The fault of a run as one of `forestplay`.
use Rattle.run_options.specs.declared.fault.RunFault.{RunFault}
use Rattle.run_options.specs.declared.fault.RunFault.TheVariants as run
use Rattle.play_inputs.specs.declared.fault.PlayFault.{PlayFault}
use Rattle.play_inputs.specs.declared.fault.PlayFault.TheVariants as play

-- the fault of a run
abbrev pub fault_of_run : RunFault → PlayFault
fault_of_run (run.Pool fault) = play.Pool fault
fault_of_run run.Stopped = play.Stopped
fault_of_run run.Memory = play.Memory
