use Rattle.colour_laws.proofs.Forests.{has_forest, has_start}
use Rattle.colour_laws.proofs.Starts.{colour_at_last}
use Rattle.colour_laws.proofs.laws.rounds_end_with_the_colours.Goals as goal

pub returns : goal.returns
returns c = λ net ok v is_vertex. (colour_at_last net ok (has_forest net ok) (has_start net ok) v is_vertex).0
