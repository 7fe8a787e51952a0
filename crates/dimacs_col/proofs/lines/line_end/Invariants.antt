use Rattle.std.proofs.Common.{◌≡◌, ◌==◌, All, false, take}
use Rattle.dimacs_col.proofs.lines.line_end.Given as goal

-- no line feed so far
abbrev pub invariant-loop-index : goal.invariant-loop-index
invariant-loop-index l = record { plain : All (λ byte. (byte == 10) ≡ false) (take l.index l.text) }
