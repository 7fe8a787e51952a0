use Rattle.std.proofs.Common.{rules}
use Rattle.event_texts.proofs.Numbers.{one-field}
use Rattle.event_texts.proofs.event_line.one_number.Goals as goal

pub returns : goal.returns
returns c = one-field c.args.fields c.in_ok-number.number (search rules) (search rules)
