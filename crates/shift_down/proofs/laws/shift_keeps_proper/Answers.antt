use Rattle.shift_down.proofs.StepLemmas.{shift-proper, shift-within}
use Rattle.shift_down.proofs.laws.shift_keeps_proper.Goals as goal

pub returns-clause-proper : goal.returns-clause-proper
returns-clause-proper c = shift-proper

pub returns-clause-within : goal.returns-clause-within
returns-clause-within c = shift-within
