-- The text of a proposal: a word for its kind, and the number of the forest.
use Rattle.std.specs.Prelude.{ℕ, ◌<◌, ◌^◌, ◌&&◌, if◌then◌else◌, nat_lt, nat_eq}
use Rattle.std.specs.Prelude.{List, codes, Option, Some, None}
use Rattle.std.specs.Cmp.Lexicographic.{pointwise}
use Rattle.matching.specs.declared.proposal.Proposal.{Proposal}
use Rattle.matching.specs.declared.proposal.Proposal.TheVariants.{Free, Take}

-- forests have 16 binary digits
abbrev pub IsProposal : Proposal → Type 0
IsProposal (Free forest) = forest < 2 ^ 16
IsProposal (Take forest) = forest < 2 ^ 16

-- the word of its kind
abbrev pub word_in : Proposal → List ℕ
word_in (Free forest) = codes "free"
word_in (Take forest) = codes "take"

-- its number
abbrev pub number_in : Proposal → ℕ
number_in (Free forest) = forest
number_in (Take forest) = forest

-- what a word and a number say
abbrev pub proposal_from : List ℕ → ℕ → Option Proposal
proposal_from word number =
    if pointwise nat_eq word (codes "free") && nat_lt number (2 ^ 16) then Some (Free number)
    else if pointwise nat_eq word (codes "take") && nat_lt number (2 ^ 16) then Some (Take number)
    else None
