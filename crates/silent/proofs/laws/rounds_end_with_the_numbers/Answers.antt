use Rattle.node_api.specs.Program.{last_pulse_on}
use Rattle.silent.specs.Knowing.{silent}
use Rattle.silent.proofs.Staying.{number-stays}
use Rattle.silent.proofs.laws.rounds_end_with_the_numbers.Goals as goal

pub returns : goal.returns
returns c = record { numbers = λ net ok v vertex. number-stays net (last_pulse_on silent net) v }
