use Rattle.interference.proofs.Neighbours.{degree-within, greatest_degree-reached, greatest_degree-within}
use Rattle.interference.proofs.laws.greatest_degree_is_the_greatest.Goals as goal

pub returns-clause-bound : goal.returns-clause-bound
returns-clause-bound c = λ net ok v vertex. degree-within net ok v

pub returns-clause-reached : goal.returns-clause-reached
returns-clause-reached c = greatest_degree-reached

pub returns-clause-limit : goal.returns-clause-limit
returns-clause-limit c = greatest_degree-within
