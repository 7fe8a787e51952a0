-- The text of a candidate: the word `leader` and the number.
use Rattle.std.specs.Prelude.{ℕ, List, Option, Some, None, if◌then◌else◌, nat_lt, codes}
use Rattle.std.specs.Prelude.{◌&&◌, nat_eq}
use Rattle.std.specs.Cmp.Lexicographic.{pointwise}
use Rattle.interference.specs.Net.{id_bound}
use Rattle.leader.specs.declared.candidate.Candidate.{Candidate}

-- what a word and a number say: an identifier, after its word
abbrev pub candidate_from : List ℕ → ℕ → Option Candidate
candidate_from word number = if pointwise nat_eq word (codes "leader") && nat_lt number id_bound then Some (record {
  0 =
      number;
}) else None
