use Rattle.alpha_laws.proofs.Runs.{runs}
use Rattle.event_rule.proofs.PulseMachine.{simulates_pulses}
use Rattle.event_rule.proofs.laws.runs_simulate_the_pulse_machine.Goals as goal

pub returns : goal.returns
returns g c = record { law = λ program laws net ok. simulates_pulses ok (runs program laws net ok) }
