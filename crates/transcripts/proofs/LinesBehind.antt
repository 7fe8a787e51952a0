-- Where a transcript is read behind a network text.
use Rattle.std.proofs.Common.{◌≡◌, ◌+◌, ◌∷◌, [], ◌∙◌, ℕ, false, None, Err, Option, List, ap, if◌then◌else◌, length, refl, sym}
use Rattle.dimacs_col.specs.Lines.{Line, has_fields}
use Rattle.transcripts.specs.Behind.{network_lines, numbers_from, read_behind, transcript_lines}
use Rattle.transcripts.specs.Reading.{read_from}

-- without a transcript, line 1 is wrong
nothing-read : {R : Type 0} (edition : List ℕ) (row_of : Line → Option R) (n : ℕ) → read_from edition row_of n None [] ≡ Err 1
unfolding read_from
nothing-read edition row_of n = refl

pub nothing-behind : {R : Type 0} (edition : List ℕ) (row_of : Line → Option R) (lines : List Line) → transcript_lines lines ≡ [] →
    read_behind edition row_of lines ≡ Err 1
nothing-behind edition row_of lines e =
    ap (read_from edition row_of (length (network_lines lines) + 1) None) e ∙ nothing-read edition row_of (length (network_lines lines) + 1)

-- from where it begins, its lines are read as the transcript
pub behind-is : {R : Type 0} (edition : List ℕ) (row_of : Line → Option R) (lines rest : List Line) (start : ℕ) →
    start ≡ length (network_lines lines) → rest ≡ transcript_lines lines → read_from edition row_of (start + 1) None rest ≡ read_behind edition row_of lines
behind-is edition row_of lines rest start s r =
    ap (λ n. read_from edition row_of (n + 1) None rest) s ∙ ap (read_from edition row_of (length (network_lines lines) + 1) None) r

-- a line without a field has no number
pub number-blank : (n m : ℕ) (line : Line) (left rest : List Line) → left ≡ line ∷ rest → has_fields line ≡ false → m ≡ n →
    numbers_from n left ≡ numbers_from (m + 1) rest
number-blank n m line left rest cut blank same =
    ap (numbers_from n) cut
    ∙ ap (λ b. if b then n ∷ numbers_from (n + 1) rest else numbers_from (n + 1) rest) blank
    ∙ ap (λ k. numbers_from (k + 1) rest) (sym same)
