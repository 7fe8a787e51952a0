use Rattle.shift_down.proofs.StepLemmas.{three-proper, three-within}
use Rattle.shift_down.proofs.laws.three_is_proper.Goals as goal

pub returns-clause-proper : goal.returns-clause-proper
returns-clause-proper c = three-proper

pub returns-clause-within : goal.returns-clause-within
returns-clause-within c = three-within
