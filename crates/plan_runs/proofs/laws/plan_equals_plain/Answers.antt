use Rattle.plan_answers.proofs.Agreed.{one-plan}
use Rattle.plan_runs.proofs.laws.plan_equals_plain.Goals as goal

pub returns : goal.returns
returns c = record { same = one-plan }
