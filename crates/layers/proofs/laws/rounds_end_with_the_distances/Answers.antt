use Rattle.layers.proofs.Reached.{finds}
use Rattle.layers.proofs.laws.rounds_end_with_the_distances.Goals as goal

pub returns : goal.returns
returns c = record { layers = λ net ok v vertex. finds net ok v vertex }
