-- The ports to higher identifiers are numbered by no more forests than there are.
use Rattle.std.proofs.Common.{◌≡◌, ℕ, ◌<◌, ◌≤◌, Bool, true, false, List, length, arith, get_or, subst, sym, refl}
use Rattle.std.specs.Prelude.{if◌then◌else◌, count_by, filter, map, nat_lt}
use Rattle.std.specs.List.{Contains}
use Rattle.std.proofs.lemmas.List.{get_or-map, length-map}
use Rattle.std.proofs.lemmas.List.Elements.{Contains-get_or}
use Rattle.std.proofs.lemmas.List.Sorted.{Contains-permutation, length_permutation}
use Rattle.std.proofs.lemmas.List.Sums.{length-filter}
use Rattle.interference.specs.Net.{place_of}
use Rattle.interference.proofs.Members.{Contains-filter, place_of-below}
use Rattle.forests.specs.Order.{in_order}
use Rattle.forests.specs.Forests.{role_by}
use Rattle.forests.specs.declared.numbering.Role.TheVariants.{Unknown, Up}
use Rattle.forests.proofs.Orders.{order-moves}
use Rattle.colour_rules.specs.Node.{HasForests, IsIn}

in_if : (b : Bool) (n f : ℕ) → (b ≡ true → f < n) → IsIn n (if b then Up f else Unknown)
in_if true n f below = below refl
in_if false n f below = tt

role-in : (own : ℕ) (ids : List ℕ) (n id : ℕ) → count_by (nat_lt own) ids ≤ n → Contains ids id → IsIn n (role_by own ids id)
unfolding role_by
role-in own ids n id few has =
    let above : List ℕ = filter (nat_lt own) ids in
    in_if (nat_lt own id) n (place_of id (in_order (λ i. i) above))
    (λ higher.
    let there : Contains (in_order (λ i. i) above) id = Contains-permutation above (in_order (λ i. i) above) id (order-moves (λ i. i) above)
    (Contains-filter (nat_lt own) ids id has higher) in
    omega (
      arith,
      place_of-below id (in_order (λ i. i) above) there,
      length_permutation above (in_order (λ i. i) above) (order-moves (λ i. i) above),
      length-filter (nat_lt own) ids,
    ))

-- where no more identifiers are higher than there are forests, each port leads to one of them
pub oriented-in : (own : ℕ) (ids : List ℕ) (n : ℕ) → count_by (nat_lt own) ids ≤ n → HasForests n (map (role_by own ids) ids)
oriented-in own ids n few port h =
    let within : port < length ids = omega (arith, length-map ids (role_by own ids)) in
    subst (IsIn n) (sym (get_or-map (role_by own ids) ids port 0 Unknown within))
    (role-in own ids n (get_or ids port 0) few (Contains-get_or ids port 0 within))
