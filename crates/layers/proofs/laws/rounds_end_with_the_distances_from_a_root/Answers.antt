use Rattle.layers.proofs.Reached.{finds}
use Rattle.layers.proofs.Rooted.{from-root}
use Rattle.layers.proofs.laws.rounds_end_with_the_distances_from_a_root.Goals as goal

pub returns : goal.returns
returns c = record { layers = λ net ok root is_root v vertex. from-root net ok root is_root v _ (finds net ok v vertex) }
