-- A line of one field, and one of two.
use Rattle.std.proofs.Common.{◌≡◌, ◌∷◌, [], ℕ, Some, None, drop}
use Rattle.std.specs.List.{slice_get}
use Rattle.dimacs_col.specs.Lines.{Line, field_at, number_of}
use Rattle.dimacs_col.specs.State.{kept_number}
use Rattle.event_texts.specs.EventLines.{one_number, two_numbers}

pub one-field : (line : Line) (n : ℕ) → Some n ≡ kept_number (field_at line 0) → None ≡ slice_get (drop 1 line) 0 → Some n ≡ one_number line
unfolding number_of
one-field [] n e none = absurd cc
one-field (a ∷ []) n e none = e
one-field (a ∷ b ∷ more) n e none = absurd cc

pub two-fields : (line : Line) (m n : ℕ) → Some m ≡ kept_number (field_at line 0) → Some n ≡ kept_number (field_at (drop 1 line) 0) →
    None ≡ slice_get (drop 1 (drop 1 line)) 0 → Some (m, n) ≡ two_numbers line
unfolding number_of
two-fields [] m n e f none = absurd cc
two-fields (a ∷ []) m n e f none = absurd cc
two-fields (a ∷ b ∷ []) m n e f none = cc
two-fields (a ∷ b ∷ c ∷ more) m n e f none = absurd cc
