use Rattle.forests.proofs.Ends.{up-parent, down-parent}
use Rattle.forests.proofs.laws.roles_tell_the_edges.Goals as goal

pub returns-clause-up : goal.returns-clause-up
returns-clause-up c = λ net ok f v w edge. up-parent net ok v w edge.0 edge.1 f

pub returns-clause-down : goal.returns-clause-down
returns-clause-down c = λ net ok f v w edge. down-parent net ok v w edge.0 edge.1 f
