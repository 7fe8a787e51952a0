-- Roles by port, and what holds up to a port.
use Rattle.std.proofs.Common.{◌≡◌, ℕ, ◌+◌, ◌<◌, ◌≤◌, List, length, ap, subst, ◌∙◌, arith}
use Rattle.std.specs.Prelude.{get_or, slice_index_or}
use Rattle.std.proofs.lemmas.List.{get_or_default}
use native.Mathlib.Decide.{dec_lt}
use Prim.{yes, no}
use Rattle.forests.specs.declared.numbering.Role.{Role}
use Rattle.forests.specs.declared.numbering.Role.TheVariants.{Unknown}

-- the role that code reads is that of the port
pub role-is : (items roles : List Role) (port : ℕ) (role : Role) → items ≡ roles → role ≡ get_or items port role → port < length roles →
    role ≡ slice_index_or roles port Unknown
role-is items roles port role same here h = here ∙ (ap (λ (rs : List Role). get_or rs port role) same ∙ get_or_default roles port role Unknown h)

-- what holds from one number to below another, and there, holds to below the next
pub holds-more : (P : ℕ → Type 0) (from to : ℕ) → ((i : ℕ) → from ≤ i → i < to → P i) → P to → (i : ℕ) → from ≤ i → i < to + 1 → P i
holds-more P from to before here i low high = elim (dec_lt i to) [
  | yes below ↦ before i low below
  | no other ↦ subst P (let e : to ≡ i = omega arith in
      e) here
]
