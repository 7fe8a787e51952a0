use Rattle.forests.proofs.Numbers.{role_by-is}
use Rattle.forests.proofs.laws.numbering_gives_the_roles_up.Goals as goal

pub returns : goal.returns
returns c = record { numbered = λ net ok v w edge. role_by-is net ok v w edge.0 edge.1 }
