-- A text, cut at its first line feed.
use Rattle.std.proofs.Common.{◌≡◌, ◌<◌, ◌≤◌, ◌+◌, ◌++◌, ◌∷◌, [], ◌==◌, ◌∙◌, ℕ, suc, Bool, true, false, All, List, ap, arith, drop, get_or}
use Rattle.std.proofs.Common.{length, map, refl, sym, take}
use Rattle.std.proofs.Math.Seq.{drop-cons}
use Rattle.std.specs.List.{slice_split}
use Rattle.std.proofs.lemmas.Bool.{eqb-true}
use Rattle.std.proofs.lemmas.List.{take-append-drop}
use Rattle.std.proofs.lemmas.List.Splits.{length-slice_split, slice_split_at}
use Rattle.std.proofs.lemmas.List.Sums.{count_by-le-length}
use Rattle.dimacs_col.specs.Lines.{line_of, lines_of}
use Rattle.dimacs_col.proofs.Whole.{length-mapped}

pub no-feed : (byte : ℕ) → (byte ≡ 10 → ⊥) → (byte == 10) ≡ false
no-feed byte other = no-feed-by (byte == 10) refl
  where
    no-feed-by : (b : Bool) → (byte == 10) ≡ b → (byte == 10) ≡ false
    no-feed-by true e = absurd (other (eqb-true byte 10 e))
    no-feed-by false e = e

pub cut-here : (text : List ℕ) (i d : ℕ) → i < length text → All (λ byte. (byte == 10) ≡ false) (take i text) → (get_or text i d == 10) ≡ true →
    slice_split (λ byte. byte == 10) text ≡ take i text ∷ slice_split (λ byte. byte == 10) (drop (i + 1) text)
cut-here text i d lt plain e =
    let one : suc i ≡ i + 1 = omega arith in
    ap (slice_split (λ byte. byte == 10)) (sym (take-append-drop i text) ∙ ap (λ rest. take i text ++ rest) (drop-cons text i d lt))
    ∙ slice_split_at (λ byte. byte == 10) (take i text) (get_or text i d) (drop (suc i) text) plain e
    ∙ ap (λ k. take i text ∷ slice_split (λ byte. byte == 10) (drop k text)) one

-- the lines of a text by its parts between line feeds
pub lines-here : (text first behind : List ℕ) → slice_split (λ byte. byte == 10) text ≡ first ∷ slice_split (λ byte. byte == 10) behind →
    lines_of text ≡ line_of first ∷ lines_of behind
unfolding lines_of
lines-here text first behind e = ap (map line_of) e

pub lines-last : (text : List ℕ) → slice_split (λ byte. byte == 10) text ≡ text ∷ [] → lines_of text ≡ line_of text ∷ []
unfolding lines_of
lines-last text e = ap (map line_of) e

-- a text has at most one line more than bytes
pub lines-few : (text : List ℕ) → length (lines_of text) ≤ length text + 1
unfolding lines_of
lines-few text =
    omega (
      arith,
      length-mapped line_of (slice_split (λ byte. byte == 10) text),
      length-slice_split (λ byte. byte == 10) text,
      count_by-le-length (λ byte. byte == 10) text,
    )
