use Rattle.leader.proofs.Flooding.{elects}
use Rattle.leader.proofs.laws.rounds_end_with_the_leader.Goals as goal

pub returns : goal.returns
returns c = record { leader = λ net ok v vertex. elects net ok v vertex }
