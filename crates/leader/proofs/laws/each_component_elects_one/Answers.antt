use Rattle.leader.proofs.Flooding.{one-leader}
use Rattle.leader.proofs.laws.each_component_elects_one.Goals as goal

pub returns : goal.returns
returns c = record { elected = λ net ok. one-leader net ok }
