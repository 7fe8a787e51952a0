use Rattle.interference.specs.Net.{id_of}
use Rattle.forests.specs.Forests.{parent}
use Rattle.colour_laws.proofs.Choices.{six_within, three_within}
use Rattle.colour_laws.proofs.Forests.{has_forest}
use Rattle.colour_laws.proofs.Proper.{six_proper, three_proper}
use Rattle.colour_laws.proofs.laws.forest_colours_are_proper.Goals as goal

pub returns-clause-six : goal.returns-clause-six
returns-clause-six c = λ net ok f. let forest = has_forest net ok in (six_proper net ok f, six_within (parent net f) (id_of net) (forest.apart f) forest.small)

pub returns-clause-three : goal.returns-clause-three
returns-clause-three c = λ net ok f. (three_proper net ok f, three_within net (has_forest net ok) f)
