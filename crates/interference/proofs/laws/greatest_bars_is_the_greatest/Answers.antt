use Rattle.interference.proofs.Neighbours.{bars-within, greatest_bars-reached, greatest_bars-within}
use Rattle.interference.proofs.laws.greatest_bars_is_the_greatest.Goals as goal

pub returns-clause-bound : goal.returns-clause-bound
returns-clause-bound c = λ net ok v vertex. bars-within net ok v

pub returns-clause-reached : goal.returns-clause-reached
returns-clause-reached c = greatest_bars-reached

pub returns-clause-limit : goal.returns-clause-limit
returns-clause-limit c = greatest_bars-within
