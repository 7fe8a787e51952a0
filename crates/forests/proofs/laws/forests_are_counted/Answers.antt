use Rattle.interference.proofs.Neighbours.{forest_count-within}
use Rattle.forests.proofs.Parents.{forest-used, parent-below}
use Rattle.forests.proofs.laws.forests_are_counted.Goals as goal

pub returns-clause-used : goal.returns-clause-used
returns-clause-used c = forest-used

pub returns-clause-no_more : goal.returns-clause-no_more
returns-clause-no_more c = λ net ok f v w vertex. parent-below net ok v vertex f w

pub returns-clause-few : goal.returns-clause-few
returns-clause-few c = forest_count-within
