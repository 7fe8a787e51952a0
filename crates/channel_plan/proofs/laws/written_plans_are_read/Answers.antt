use Rattle.channel_plan.proofs.Written.{written-read}
use Rattle.channel_plan.proofs.laws.written_plans_are_read.Goals as goal

pub returns : goal.returns
returns c = written-read
