-- What a fault of a run of workers is to its program.
use Rattle.run_options.specs.declared.fault.RunFault.{RunFault}
use Rattle.run_options.specs.declared.fault.RunFault.TheVariants as run
use Rattle.plan_answers.specs.declared.fault.PlanFault.{PlanFault}
use Rattle.plan_answers.specs.declared.fault.PlanFault.TheVariants as plan

abbrev pub fault_of_run : RunFault → PlanFault
fault_of_run (run.Pool fault) = plan.Pool fault
fault_of_run run.Stopped = plan.Stopped
fault_of_run run.Memory = plan.Memory
