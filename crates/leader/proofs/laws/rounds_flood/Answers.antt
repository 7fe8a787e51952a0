use Rattle.leader.proofs.Flooding.{floods}
use Rattle.leader.proofs.laws.rounds_flood.Goals as goal

pub returns : goal.returns
returns c = record { flood = λ net ok p v vertex few. floods net ok p v vertex few }
