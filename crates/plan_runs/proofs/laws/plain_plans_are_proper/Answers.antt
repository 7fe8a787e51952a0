use Rattle.plan_answers.proofs.Agreed.{agreed-memory, agreed-proper}
use Rattle.plan_runs.proofs.laws.plain_plans_are_proper.Goals as goal

pub returns-clause-proper : goal.returns-clause-proper
returns-clause-proper c = agreed-proper

pub returns-clause-only_memory : goal.returns-clause-only_memory
returns-clause-only_memory c = agreed-memory
