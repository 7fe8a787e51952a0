-- The parents of a vertex are its higher neighbours, each in the forest of its place.
use Rattle.std.proofs.Common.{◌≡◌, ◌≢◌, ◌↔◌, ℕ, zero, suc, ◌<◌, Bool, length, get_or, refl, ap, sym, ◌∙◌, arith, subst, Some, inl, inr}
use Rattle.std.specs.Prelude.{nat_lt, count_by}
use Rattle.std.specs.List.{Contains}
use Rattle.std.proofs.lemmas.Bool.{cases_order, ltb-true, lt-ltb, le-ltb}
use Rattle.std.proofs.lemmas.List.Sorted.{Contains-permutation, IsPermutation-sym}
use Rattle.std.proofs.lemmas.Option.{slice_get_within, get_or_from_slice_get, slice_get-get_or}
use Rattle.interference.specs.Net.{Net, IsNetwork, IsVertex, id_of, neighbours, place_of, higher_count, forest_count_of, count_of, greatest_from}
use Rattle.interference.proofs.Members.{Contains-filter, Contains-from_filter, passes-from_filter, place_of-is, place_of-below}
use Rattle.interference.proofs.Neighbours.{higher_count-le-forests, forest_count-reached}
use Rattle.forests.specs.Order.{in_order, IsAscendingBy}
use Rattle.forests.specs.Forests.{higher, up, parent, number, rank}
use Rattle.forests.proofs.Orders.{order-moves, order-ascends, ascending-apart}
use Rattle.forests.proofs.Places.{place-at}
use Rattle.forests.proofs.Highers.{higher-apart, length-up}
use Rattle.forests.proofs.Ranks.{rank-at, count-moved, count-filtered}

-- ---- the higher neighbours, in order
module _ (net : Net) (v w : ℕ) where
  pub in-up : Contains (neighbours net v) w → id_of net v < id_of net w → Contains (up net v) w
  unfolding up
  in-up has above = Contains-permutation (higher net v) (in_order (id_of net) (higher net v)) w (order-moves (id_of net) (higher net v))
      (Contains-filter (λ u. nat_lt (id_of net v) (id_of net u)) (neighbours net v) w has (lt-ltb (id_of net v) (id_of net w) above))

  from-up : Contains (up net v) w → Contains (higher net v) w
  unfolding up
  from-up has = Contains-permutation (in_order (id_of net) (higher net v)) (higher net v) w
      (IsPermutation-sym (higher net v) (in_order (id_of net) (higher net v)) (order-moves (id_of net) (higher net v))) has

  pub up-neighbour : Contains (up net v) w → Contains (neighbours net v) w
  up-neighbour has = Contains-from_filter (λ u. nat_lt (id_of net v) (id_of net u)) (neighbours net v) w (from-up has)

  pub up-higher : Contains (up net v) w → id_of net v < id_of net w
  up-higher has = ltb-true (id_of net v) (id_of net w) (passes-from_filter (λ u. nat_lt (id_of net v) (id_of net u)) (neighbours net v) w (from-up has))

pub parent-in_up : (net : Net) (f v w : ℕ) → parent net f v ≡ Some w → Contains (up net v) w
parent-in_up net f v w e = (f, slice_get_within (up net v) f w e, get_or_from_slice_get (up net v) f w w e)

pub parent-higher : (net : Net) (f v w : ℕ) → parent net f v ≡ Some w → id_of net v < id_of net w
parent-higher net f v w e = up-higher net v w (parent-in_up net f v w e)

-- ---- place and forest
pub place-parent : (net : Net) (v w : ℕ) → Contains (up net v) w → parent net (place_of w (up net v)) v ≡ Some w
place-parent net v w has =
    let low : place_of w (up net v) < length (up net v) = place_of-below w (up net v) has in
    slice_get-get_or (up net v) (place_of w (up net v)) 0 low ∙ ap (λ u. Some u) (place_of-is w (up net v) 0 low)

module _ (net : Net) (ok : IsNetwork net) (v : ℕ) (vertex : IsVertex net v) where
  pub up-ascends : IsAscendingBy (id_of net) (up net v)
  unfolding up
  up-ascends = order-ascends (id_of net) (higher net v) (higher-apart net ok v vertex)

  up-apart : (i j d : ℕ) → i < j → j < length (up net v) → get_or (up net v) i d ≢ get_or (up net v) j d
  up-apart = λ i j d l m same. ascending-apart (id_of net) (up net v) up-ascends i j d l m (ap (id_of net) same)

  pub parent-place : (f w : ℕ) → parent net f v ≡ Some w → place_of w (up net v) ≡ f
  parent-place f w e =
      ap (λ u. place_of u (up net v)) (sym (get_or_from_slice_get (up net v) f w 0 e)) ∙ place-at (up net v) f up-apart (slice_get_within (up net v) f w e)

  -- the place of a higher neighbour is its rank
  pub place-rank : (w : ℕ) → Contains (up net v) w → place_of w (up net v) ≡ rank net v w
  unfolding up
  place-rank w has =
      let low : place_of w (up net v) < length (up net v) = place_of-below w (up net v) has in
      let test : ℕ → Bool = λ u. nat_lt (id_of net u) (id_of net w) in
      let at : count_by (λ u. nat_lt (id_of net u) (id_of net w)) (up net v) ≡ place_of w (up net v) =
      subst (λ (z : ℕ). count_by (λ u. nat_lt (id_of net u) (id_of net z)) (up net v) ≡ place_of w (up net v)) (place_of-is w (up net v) 0 low)
      (rank-at (id_of net) (up net v) (place_of w (up net v)) 0 up-ascends low) in
      sym at ∙ (count-moved (λ u. nat_lt (id_of net u) (id_of net w)) (higher net v) (in_order (id_of net) (higher net v))
      (order-moves (id_of net) (higher net v))
      ∙ count-filtered (λ u. nat_lt (id_of net v) (id_of net u)) (λ u. nat_lt (id_of net u) (id_of net w)) (neighbours net v))

  pub parent-ranked : (f w : ℕ) → (parent net f v ≡ Some w) ↔ (Contains (neighbours net v) w × (id_of net v < id_of net w) × (rank net v w ≡ f))
  parent-ranked f w = (
    λ e. let has : Contains (up net v) w = parent-in_up net f v w e in (
      up-neighbour net v w has,
      up-higher net v w has,
      sym (place-rank w has) ∙
          parent-place f w e,
    ),
    λ (has, above, is). let member : Contains (up net v) w = in-up net v w has above in ap (λ g. parent net g v) (sym (place-rank w member ∙ is)) ∙
        place-parent net v w member,
  )

  -- ---- the number of an edge
  pub number-parent : (w : ℕ) → Contains (neighbours net v) w → id_of net v < id_of net w → parent net (number net v w) v ≡ Some w
  number-parent w has above = rw (lt-ltb (id_of net v) (id_of net w) above) (place-parent net v w (in-up net v w has above))

  pub parent-number : (f w : ℕ) → parent net f v ≡ Some w → f ≡ number net v w
  parent-number f w e = rw (lt-ltb (id_of net v) (id_of net w) (parent-higher net f v w e)) (sym (parent-place f w e))

  pub parent-below : (f w : ℕ) → parent net f v ≡ Some w → f < forest_count_of net
  parent-below f w e =
      let low : f < length (up net v) = slice_get_within (up net v) f w e in
      omega (arith, low, length-up net v, higher_count-le-forests net ok v vertex)

pub number-swap : (net : Net) (v w : ℕ) → id_of net v ≢ id_of net w → number net v w ≡ number net w v
number-swap net v w ne =
    elim (cases_order (id_of net v) (id_of net w)) [
      | inl same ↦ absurd (ne same)
      | inr side ↦ elim side [
        | inl below ↦ rw (lt-ltb (id_of net v) (id_of net w) below, le-ltb (id_of net w) (id_of net v) (omega arith)) refl
        | inr above ↦ rw (le-ltb (id_of net v) (id_of net w) (omega arith), lt-ltb (id_of net w) (id_of net v) above) refl
      ]
    ]

-- ---- each forest has an edge
pub forest-used : (net : Net) → IsNetwork net → (f : ℕ) → f < forest_count_of net → (v : ℕ) × IsVertex net v × ((w : ℕ) × (parent net f v ≡ Some w))
forest-used net ok f below =
    let (v, vertex, is) = forest_count-reached net ok (some_vertex (count_of net) below) in
    let low : f < length (up net v) = omega (arith, length-up net v, is) in
    (v, vertex, (get_or (up net v) f 0, slice_get-get_or (up net v) f 0 low))
  where
    some_vertex : (n : ℕ) → f < greatest_from (higher_count net) 1 n → 0 < n
    some_vertex zero h = absurd (omega arith)
    some_vertex (suc n) h = omega arith
