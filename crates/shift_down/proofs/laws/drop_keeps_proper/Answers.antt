use Rattle.shift_down.proofs.StepLemmas.{reduce-proper, reduce-without, reduce-below}
use Rattle.shift_down.proofs.laws.drop_keeps_proper.Goals as goal

pub returns-clause-proper : goal.returns-clause-proper
returns-clause-proper c = reduce-proper

pub returns-clause-without : goal.returns-clause-without
returns-clause-without c = reduce-without

pub returns-clause-below : goal.returns-clause-below
returns-clause-below c = reduce-below
