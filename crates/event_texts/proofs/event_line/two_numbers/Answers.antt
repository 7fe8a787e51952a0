use Rattle.std.proofs.Common.{rules}
use Rattle.event_texts.proofs.Numbers.{two-fields}
use Rattle.event_texts.proofs.event_line.two_numbers.Goals as goal

pub returns : goal.returns
returns c = two-fields c.args.fields c.in_ok-first.first c.in_ok-second.second (search rules) (search rules) (search rules)
