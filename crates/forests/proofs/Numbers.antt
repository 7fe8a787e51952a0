-- The places of identifiers among those above a vertex's own are the numbers of its edges up.
use Rattle.std.proofs.Common.{◌≡◌, ◌≢◌, ℕ, ◌<◌, Bool, true, false, length, get_or, map, refl, ap, sym, ◌∙◌}
use Rattle.std.specs.Prelude.{if◌then◌else◌, filter, nat_lt}
use Rattle.std.specs.List.{AllPairs, Contains}
use Rattle.std.proofs.lemmas.Bool.{ltb-true}
use Rattle.std.proofs.lemmas.List.{get_or-map, length-map}
use Rattle.interference.specs.Net.{Net, IsNetwork, IsVertex, id_of, neighbours, place_of}
use Rattle.interference.proofs.Members.{filter-map, place_of-is, place_of-below}
use Rattle.forests.specs.Order.{in_order}
use Rattle.forests.specs.Forests.{higher, up, number, role_by, role_of}
use Rattle.forests.specs.declared.numbering.Role.TheVariants.{Unknown, Up, Down}
use Rattle.forests.proofs.Orders.{ascending-apart}
use Rattle.forests.proofs.Sorts.{order-map, keys-apart}
use Rattle.forests.proofs.Places.{place-at}
use Rattle.forests.proofs.Parents.{in-up, up-ascends}

-- the identifiers above that of v, in order, are those of its higher neighbours, in order
ids-above : (net : Net) (v : ℕ) → in_order (λ i. i) (filter (nat_lt (id_of net v)) (map (id_of net) (neighbours net v))) ≡ map (id_of net) (up net v)
unfolding up
ids-above net v = ap (in_order (λ i. i)) (filter-map (nat_lt (id_of net v)) (id_of net) (neighbours net v)) ∙ order-map (λ i. i) (id_of net) (higher net v)

if-both : (b : Bool) (x : ℕ) (f g : ℕ) → (b ≡ true → f ≡ g) → (if b then Up f else Unknown) ≡ (if b then (if b then Up g else Down x) else Unknown)
if-both true x f g same = ap (λ h. Up h) (same refl)
if-both false x f g same = refl

module _ (net : Net) (ok : IsNetwork net) (v w : ℕ) (vertex : IsVertex net v) (has : Contains (neighbours net v) w) where
  same-place : id_of net v < id_of net w → place_of (id_of net w) (map (id_of net) (up net v)) ≡ place_of w (up net v)
  same-place above =
      let k : ℕ = place_of w (up net v) in
      let low : place_of w (up net v) < length (up net v) = place_of-below w (up net v) (in-up net v w has above) in
      let apart : AllPairs (λ (x y : ℕ). x ≢ y) (map (id_of net) (up net v)) =
      keys-apart (id_of net) (up net v) (ascending-apart (id_of net) (up net v) (up-ascends net ok v vertex)) in
      let at : get_or (map (id_of net) (up net v)) (place_of w (up net v)) 0 ≡ id_of net w = get_or-map (id_of net) (up net v) (place_of w (up net v)) 0 0 low
      ∙ ap (id_of net) (place_of-is w (up net v) 0 low) in
      let long : place_of w (up net v) < length (map (id_of net) (up net v)) = rw (length-map (up net v) (id_of net)) low in
      ap (λ (i : ℕ). place_of i (map (id_of net) (up net v))) (sym at) ∙ place-at (map (id_of net) (up net v)) (place_of w (up net v)) apart long

  same-number : nat_lt (id_of net v) (id_of net w) ≡ true → place_of (id_of net w)
      (in_order (λ i. i) (filter (nat_lt (id_of net v)) (map (id_of net) (neighbours net v)))) ≡ number net v w
  same-number test = rw test (ap (λ ids. place_of (id_of net w) ids) (ids-above net v) ∙ same-place (ltb-true (id_of net v) (id_of net w) test))

  pub role_by-is : role_by (id_of net v) (map (id_of net) (neighbours net v)) (id_of net w)
      ≡ (if nat_lt (id_of net v) (id_of net w) then role_of net v w else Unknown)
  unfolding role_by role_of
  role_by-is = if-both (nat_lt (id_of net v) (id_of net w)) (number net v w) _ (number net v w) same-number
