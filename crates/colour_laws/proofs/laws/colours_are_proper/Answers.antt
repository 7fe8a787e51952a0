use Rattle.interference.specs.Net.{forest_count_of}
use Rattle.colour_laws.proofs.Choices.{colours_unbarred, colours_within}
use Rattle.colour_laws.proofs.Forests.{has_forest}
use Rattle.colour_laws.proofs.Proper.{colours_proper}
use Rattle.colour_laws.proofs.laws.colours_are_proper.Goals as goal

pub returns-clause-proper : goal.returns-clause-proper
returns-clause-proper c = λ net ok v w edge. colours_proper net ok v w edge.0 edge.1

pub returns-clause-within : goal.returns-clause-within
returns-clause-within c = λ net ok v. colours_within net (has_forest net ok) (forest_count_of net) v

pub returns-clause-unbarred : goal.returns-clause-unbarred
returns-clause-unbarred c = λ net ok v. colours_unbarred net (has_forest net ok) (forest_count_of net) v
