-- What holds of every port of a node, as a claim on each port and as the test of all.
use Rattle.std.proofs.Common.{◌≡◌, ℕ, zero, suc, ◌<◌, ◌≤◌, true, false, not, List, [], ◌∷◌, length, get_or, refl, ap, arith, le-leb}
use Rattle.std.proofs.lemmas.Bool.{and_from, and_parts, leb-true}
use Rattle.alpha_core.specs.View.{Port, all_closed, all_out_within, all_safe, new_port, none_waits}

module _ {M : Type 0} where
  pub none_from : (ports : List (Port M)) → ((i : ℕ) → i < length ports → (get_or ports i new_port).waits ≡ false) → none_waits ports ≡ true
  none_from [] each = refl
  none_from (port ∷ ports) each = and_from _ _ (ap (λ b. not b) (each 0 (omega arith))) (none_from ports (λ i lt. each (suc i) (omega arith)))

  pub safe_from : (ports : List (Port M)) → ((i : ℕ) → i < length ports → (get_or ports i new_port).safe ≡ true) → all_safe ports ≡ true
  safe_from [] each = refl
  safe_from (port ∷ ports) each = and_from _ _ (each 0 (omega arith)) (safe_from ports (λ i lt. each (suc i) (omega arith)))

  pub closed_from : (ports : List (Port M)) → ((i : ℕ) → i < length ports → (get_or ports i new_port).closed ≡ true) → all_closed ports ≡ true
  closed_from [] each = refl
  closed_from (port ∷ ports) each = and_from _ _ (each 0 (omega arith)) (closed_from ports (λ i lt. each (suc i) (omega arith)))

  pub closed_at : (ports : List (Port M)) (i : ℕ) → all_closed ports ≡ true → i < length ports → (get_or ports i new_port).closed ≡ true
  closed_at [] i e lt = absurd (omega arith)
  closed_at (port ∷ ports) zero e lt = (and_parts _ _ e).0
  closed_at (port ∷ ports) (suc i) e lt = closed_at ports i (and_parts _ _ e).1 (omega arith)

  module _ (most : ℕ) where
    pub out_from : (ports : List (Port M)) → ((i : ℕ) → i < length ports → length (get_or ports i new_port).out ≤ most) → all_out_within most ports ≡ true
    out_from [] each = refl
    out_from (port ∷ ports) each =
        and_from _ _ (le-leb (length port.out) most (each 0 (omega arith))) (out_from ports (λ i lt. each (suc i) (omega arith)))

    pub out_at : (ports : List (Port M)) (i : ℕ) → all_out_within most ports ≡ true → i < length ports → length (get_or ports i new_port).out ≤ most
    out_at [] i e lt = absurd (omega arith)
    out_at (port ∷ ports) zero e lt = leb-true (length port.out) most (and_parts _ _ e).0
    out_at (port ∷ ports) (suc i) e lt = out_at ports i (and_parts _ _ e).1 (omega arith)
