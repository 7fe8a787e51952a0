use Rattle.alpha_laws.proofs.Runs.{runs}
use Rattle.event_rule.proofs.Exactly.{runs-exactly}
use Rattle.event_machine.proofs.laws.runs_are_exact.Goals as goal

pub returns : goal.returns
returns g c = record { law = λ program laws net ok events. runs-exactly ok (runs program laws net ok) events }
