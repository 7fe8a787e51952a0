use Rattle.std.proofs.Common.{◌≡◌, take}
use Rattle.play_answers.specs.ReplayAnswers.{bare_rows}
use Rattle.play_answers.proofs.replaying.bare_rows.Given as goal

-- the entries so far, without their stamps
abbrev pub invariant-loop-row : goal.invariant-loop-row
invariant-loop-row g l = l.bare.items ≡ bare_rows (take l.row-index l.rows)
