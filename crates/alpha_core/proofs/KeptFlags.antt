-- The flags of a port as they are read off its safes since the pulse, and counts of flags against the number of ports.
use Rattle.std.proofs.Common.{◌≡◌, ℕ, ◌+◌, ◌-◌, ◌<◌, ◌≤◌, Bool, List, length, get_or, refl, sym, ap, ◌∙◌, arith, count_by, nat_lt, ⊎_elim}
use Rattle.std.specs.Prelude.{All}
use Rattle.std.proofs.lemmas.Bool.{cases_lt, lt-ltb, le-ltb}
use Rattle.std.proofs.lemmas.List.{length-map}
use Rattle.std.proofs.lemmas.List.Sums.{count_by-le-length}
use Rattle.alpha_core.specs.declared.marks.PortFlags.{PortFlags}
use Rattle.alpha_core.specs.declared.marks.Marks.{Marks}
use Rattle.alpha_core.specs.Rows.{AtPulse, IsInStep, marks_at, marks_in, marks_with}
use Rattle.alpha_core.proofs.Kept.{seen, step-of}

-- a bound of the safes since the pulse is one of all safes
lt-since : (k p s m : ℕ) → p ≤ s → m ≡ p + k → nat_lt k (s - p) ≡ nat_lt m s
lt-since k p s m le is = ⊎_elim
    (λ lt. lt-ltb k (s - p) lt ∙ sym (lt-ltb m s (omega (arith, lt, le, is))))
    (λ ge. le-ltb k (s - p) ge ∙ sym (le-ltb m s (omega (arith, ge, le, is))))
    (cases_lt k (s - p))

pub flags-seen : (p : ℕ) (kept : List PortFlags) (v : AtPulse Marks) → record { pulse = p; ports = marks_in p kept } ≡ v → (i : ℕ) (o : PortFlags)
    → o ≡ get_or kept i o → i < length v.ports → All (IsInStep p) kept
    → record { waits = o.waits; safe = nat_lt 0 (o.safes - p); early_safe = nat_lt 1 (o.safes - p); closed = o.closed } ≡ marks_at v.ports i
flags-seen p kept v is i o was h steps =
    let low = (step-of p kept v is i o was h steps).0 in
    ap (λ b. record { waits = o.waits; safe = b; early_safe = nat_lt 1 (o.safes - p); closed = o.closed }) (lt-since 0 p o.safes p low (omega arith))
    ∙ ap (λ b. record { waits = o.waits; safe = nat_lt p o.safes; early_safe = b; closed = o.closed }) (lt-since 1 p o.safes (p + 1) low refl)
    ∙ sym (seen p kept v is i o was h)

-- no more ports are counted than there are
pub count-fits : (p : ℕ) (kept : List PortFlags) (q : Marks → Bool) → count_by q (marks_in p kept) ≤ length kept
count-fits p kept q = omega (arith, count_by-le-length q (marks_in p kept), length-map kept (marks_with p))
