-- A shift keeps colours apart, and a drop after it takes one colour away.
use Rattle.std.proofs.Common.{◌≡◌, ◌≢◌, ℕ, ◌<◌, ◌≤◌, refl, sym, ◌∙◌, arith}
use Rattle.std.specs.Prelude.{Option, Some, None}
use Rattle.std.proofs.lemmas.Bool.Decides.{nat_tests}
use Rattle.colour_base.specs.Forest.{IsProper, IsWithin, at_parent}
use Rattle.shift_down.specs.Steps.{other_of_two, free_by, shift_by, drop_by, shift, reduce, three_from}
use Rattle.shift_down.proofs.FreeLemmas.{other-is, other_of_two-is, free-is}

-- What is so of the colour of every parent is so of the parent's colour, if there is one.
at_parent-apart : (parents : ℕ → Option ℕ) (c : ℕ → ℕ) → IsProper parents c → (v : ℕ) (p : Option ℕ) → parents v ≡ p → (u : ℕ) →
    at_parent parents c v ≡ Some u → c v ≢ u
at_parent-apart parents c proper v None e u h = let gone : at_parent parents c v ≡ None = rw e refl in absurd (cc)
at_parent-apart parents c proper v (Some w) e u h =
    let there : at_parent parents c v ≡ Some (c w) = rw e refl in
    let same : c w ≡ u = cc in
    λ k. proper v w e (k ∙ sym same)

at_parent-within : (n : ℕ) (parents : ℕ → Option ℕ) (c : ℕ → ℕ) → IsWithin n c → (v : ℕ) (p : Option ℕ) → parents v ≡ p → (u : ℕ) →
    at_parent parents c v ≡ Some u → u ≤ n
at_parent-within n parents c within v None e u h = let gone : at_parent parents c v ≡ None = rw e refl in absurd (cc)
at_parent-within n parents c within v (Some w) e u h =
    let there : at_parent parents c v ≡ Some (c w) = rw e refl in
    let same : c w ≡ u = cc in
    omega (arith, within w)

-- the shift
shift_by-apart : (own : ℕ) (above : Option ℕ) → ((u : ℕ) → above ≡ Some u → own ≢ u) → own ≢ shift_by own above
shift_by-apart own None proper same = (other-is own).1 (sym same)
shift_by-apart own (Some u) proper same = proper u refl same

pub shift-proper : (parents : ℕ → Option ℕ) (c : ℕ → ℕ) → IsProper parents c → IsProper parents (shift parents c)
shift-proper parents c proper v w e = rw e (shift_by-apart (c w) (at_parent parents c w) (at_parent-apart parents c proper w (parents w) refl))

shift_by-within : (n own : ℕ) (above : Option ℕ) → 2 ≤ n → ((u : ℕ) → above ≡ Some u → u ≤ n) → shift_by own above ≤ n
shift_by-within n own None two within = omega (arith, (other-is own).0)
shift_by-within n own (Some u) two within = within u refl

pub shift-within : (n : ℕ) (parents : ℕ → Option ℕ) (c : ℕ → ℕ) → 2 ≤ n → IsWithin n c → IsWithin n (shift parents c)
shift-within n parents c two within v = shift_by-within n (c v) (at_parent parents c v) two (at_parent-within n parents c within v (parents v) refl)

-- The drop. A node has colour a, which was its parent's before, and its parent has colour b. The node avoids b, and the parent avoids a.
drop_by-apart : (x a b before before_above : ℕ) (above : Option ℕ) → a ≢ b → before_above ≡ a → drop_by x a before (Some b) ≢ drop_by x b before_above above
drop_by-apart x a b before before_above above apart was =
    let own : other_of_two before b ≢ b = (other_of_two-is before b).2 in
    let parent : free_by before_above above ≢ before_above = (free-is before_above above).1 in
    λ same. grind (arith, nat_tests)

pub reduce-proper : (x : ℕ) (parents : ℕ → Option ℕ) (c : ℕ → ℕ) → IsProper parents c → IsProper parents (reduce x parents c)
reduce-proper x parents c proper v w e =
    let apart : shift parents c v ≢ shift parents c w = shift-proper parents c proper v w e in
    let was : c w ≡ shift parents c v = rw e refl in
    rw e (drop_by-apart x (c w) (shift parents c w) (c v) (c w) (at_parent parents (shift parents c) w) (rw e at apart) refl)

drop_by-without : (x own before : ℕ) (parent : Option ℕ) → 3 ≤ x → drop_by x own before parent ≢ x
drop_by-without x own before parent low = let free : free_by before parent ≤ 2 = (free-is before parent).0 in grind (arith, nat_tests)

drop_by-below : (x own before : ℕ) (parent : Option ℕ) → 3 ≤ x → own ≤ x → drop_by x own before parent < x
drop_by-below x own before parent low within = let free : free_by before parent ≤ 2 = (free-is before parent).0 in grind (arith, nat_tests)

pub reduce-without : (x : ℕ) (parents : ℕ → Option ℕ) (c : ℕ → ℕ) → 3 ≤ x → (v : ℕ) → reduce x parents c v ≢ x
reduce-without x parents c low v = drop_by-without x (shift parents c v) (c v) (at_parent parents (shift parents c) v) low

pub reduce-below : (x : ℕ) (parents : ℕ → Option ℕ) (c : ℕ → ℕ) → 3 ≤ x → IsWithin x c → (v : ℕ) → reduce x parents c v < x
reduce-below x parents c low within v = drop_by-below x (shift parents c v) (c v) (at_parent parents (shift parents c) v) low
    (shift-within x parents c (omega arith) within v)

-- the three drops
pub three-proper : (parents : ℕ → Option ℕ) (c : ℕ → ℕ) → IsProper parents c → IsProper parents (three_from parents c)
three-proper parents c proper =
    reduce-proper 3 parents (reduce 4 parents (reduce 5 parents c)) (reduce-proper 4 parents (reduce 5 parents c) (reduce-proper 5 parents c proper))

pub three-within : (parents : ℕ → Option ℕ) (c : ℕ → ℕ) → IsWithin 5 c → IsWithin 2 (three_from parents c)
three-within parents c within v =
    let four : IsWithin 4 (reduce 5 parents c) = λ w. omega (arith, reduce-below 5 parents c (omega arith) within w) in
    let three : IsWithin 3 (reduce 4 parents (reduce 5 parents c)) = λ w. omega (arith, reduce-below 4 parents (reduce 5 parents c) (omega arith) four w) in
    omega (arith, reduce-below 3 parents (reduce 4 parents (reduce 5 parents c)) (omega arith) three v)
