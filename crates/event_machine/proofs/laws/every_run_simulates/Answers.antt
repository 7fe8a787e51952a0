use Rattle.alpha_laws.proofs.Runs.{runs}
use Rattle.event_rule.proofs.KeptRuns.{reached_simulates}
use Rattle.event_machine.proofs.laws.every_run_simulates.Goals as goal

pub returns : goal.returns
returns g c = record { law = λ program laws net ok events state is. reached_simulates ok (runs program laws net ok) state (events, is) }
