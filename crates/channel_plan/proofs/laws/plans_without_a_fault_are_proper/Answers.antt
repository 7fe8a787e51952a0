use Rattle.channel_plan.proofs.Proper.{fault-from, proper-from}
use Rattle.channel_plan.proofs.laws.plans_without_a_fault_are_proper.Goals as goal

pub returns : goal.returns
returns c = λ net is rows. (proper-from net rows is, fault-from net rows)
