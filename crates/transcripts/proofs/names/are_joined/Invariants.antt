use Rattle.std.proofs.Common.{◌≡◌, drop}
use Rattle.number_rows.specs.Names.{are_joined}
use Rattle.transcripts.proofs.names.are_joined.Given as goal

-- all so far are letters and hyphens, so those that are left decide
abbrev pub invariant-loop-letter : goal.invariant-loop-letter
invariant-loop-letter l = are_joined l.letters ≡ are_joined (drop l.letter-index l.letters)
