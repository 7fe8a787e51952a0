use Rattle.alpha_laws.proofs.Runs.{runs}
use Rattle.colour_rules.specs.Program.{colouring}
use Rattle.colour_laws.proofs.Rounds.{rounds_are_program}
use Rattle.event_rule.proofs.KeptRuns.{reached_simulates}
use Rattle.event_rule.proofs.Exactly.{runs-exactly}
use Rattle.plan_runs.proofs.coloured_runs.runs_of_the_colouring.Goals as goal

pub returns : goal.returns
returns c = record {
  simulate = λ net ok events state is. reached_simulates ok (runs colouring rounds_are_program net ok) state (events, is);
  exact = λ net ok events. runs-exactly ok (runs colouring rounds_are_program net ok) events;
}
