use Rattle.forests.proofs.Parents.{number-parent, parent-number}
use Rattle.forests.proofs.Ends.{number-alike, number-below}
use Rattle.forests.proofs.laws.each_edge_is_in_one_forest.Goals as goal

pub returns-clause-there : goal.returns-clause-there
returns-clause-there c = λ net ok v w edge. number-parent net ok v edge.0 w edge.1

pub returns-clause-alone : goal.returns-clause-alone
returns-clause-alone c = λ net ok f v w vertex. parent-number net ok v vertex f w

pub returns-clause-alike : goal.returns-clause-alike
returns-clause-alike c = λ net ok v w edge. number-alike net ok v w edge.0 edge.1

pub returns-clause-below : goal.returns-clause-below
returns-clause-below c = λ net ok v w edge. number-below net ok v w edge.0 edge.1
