use Rattle.alpha_laws.proofs.PulseCounts.{pulses_counted}
use Rattle.alpha_laws.proofs.laws.pulses_are_counted.Goals as goal

pub returns : goal.returns
returns g c = record { law = λ program net ok. pulses_counted program net ok }
