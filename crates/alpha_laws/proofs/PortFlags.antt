-- The ports of a node, read one by one.
use Rattle.std.proofs.Common.{◌≡◌, ℕ, suc, zero, ◌<◌, true, false, not, List, [], ◌∷◌, length, get_or, ap, arith}
use Rattle.std.proofs.lemmas.Bool.{and_parts, false_from_ne_true}
use Rattle.alpha_core.specs.View.{Port, none_waits, all_safe}

-- flags of all ports
pub no_wait_at : {M : Type 0} (ports : List (Port M)) (i : ℕ) (d : Port M) → none_waits ports ≡ true → i < length ports → (get_or ports i d).waits ≡ false
no_wait_at [] i d e lt = absurd (omega arith)
no_wait_at (port ∷ ports) zero d e lt = false_from_ne_true port.waits (λ w. let both = and_parts (not port.waits) (none_waits ports) e in
    let one : not port.waits ≡ true = both.0 in let two : not port.waits ≡ false = ap (λ b. not b) w in cc)
no_wait_at (port ∷ ports) (suc i) d e lt = no_wait_at ports i d (and_parts (not port.waits) (none_waits ports) e).1 (omega arith)

pub safe_at : {M : Type 0} (ports : List (Port M)) (i : ℕ) (d : Port M) → all_safe ports ≡ true → i < length ports → (get_or ports i d).safe ≡ true
safe_at [] i d e lt = absurd (omega arith)
safe_at (port ∷ ports) zero d e lt = (and_parts port.safe (all_safe ports) e).0
safe_at (port ∷ ports) (suc i) d e lt = safe_at ports i d (and_parts port.safe (all_safe ports) e).1 (omega arith)
