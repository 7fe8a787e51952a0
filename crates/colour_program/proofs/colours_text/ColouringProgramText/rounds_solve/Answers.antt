use Rattle.colour_laws.proofs.Coloured.{are_colours}
use Rattle.colour_laws.proofs.Forests.{has_forest, has_start}
use Rattle.colour_laws.proofs.Starts.{colour_at_last}
use Rattle.colour_program.proofs.colours_text.ColouringProgramText.rounds_solve.Goals as goal

pub returns : goal.returns
returns c = record {
  law = λ net ok. are_colours net ok _ (λ v vertex. (colour_at_last net ok (has_forest net ok) (has_start net ok) v vertex).0);
}
