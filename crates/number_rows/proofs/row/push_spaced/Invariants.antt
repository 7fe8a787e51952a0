use Rattle.std.proofs.Common.{◌≡◌, ◌++◌, take}
use Rattle.number_rows.specs.Row.{spaced}
use Rattle.number_rows.proofs.row.push_spaced.Given as goal

abbrev pub invariant-loop-number : goal.invariant-loop-number
invariant-loop-number l = l.text.items ≡ l.fn.text.items ++ spaced (take l.number-index l.numbers)
