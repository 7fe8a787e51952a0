use Rattle.channel_plan.proofs.Texts.{text-from, text-to}
use Rattle.channel_plan.proofs.laws.plan_texts_are_read.Goals as goal

pub returns : goal.returns
returns c = λ lines rows. (text-from 1 rows lines, λ is. text-to 1 rows lines is.body is.lines_are is.rows_are)
