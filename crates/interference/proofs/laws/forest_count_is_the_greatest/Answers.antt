use Rattle.interference.proofs.Neighbours.{higher_count-le-forests, forest_count-reached, forest_count-within}
use Rattle.interference.proofs.laws.forest_count_is_the_greatest.Goals as goal

pub returns-clause-bound : goal.returns-clause-bound
returns-clause-bound c = higher_count-le-forests

pub returns-clause-reached : goal.returns-clause-reached
returns-clause-reached c = forest_count-reached

pub returns-clause-within : goal.returns-clause-within
returns-clause-within c = forest_count-within
