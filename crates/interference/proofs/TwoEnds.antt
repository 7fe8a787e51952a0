-- Each edge has two ends: a sum over the ends is the same from either end of each edge, and so all degrees are twice the edges.
-- Plan: a sum over the neighbours of v is one over all vertices w, of what counts if w is a neighbour of v; that is so exactly
-- if v is a neighbour of w, and sums over two lists may be taken in either order.
use Rattle.std.proofs.Common.{◌≡◌, ⊎_elim, ℕ, zero, suc, ◌+◌, ◌*◌, ◌<◌, ◌==◌, if◌then◌else◌, cond, List, [], ◌∷◌, length, get_or, refl, sym, ◌∙◌, arith}
use Rattle.std.specs.Prelude.{nat_lt}
use Rattle.std.specs.List.{Contains, sum_by, count_by}
use Rattle.std.proofs.lemmas.Bool.{cases_lt, eq-eqb, ne_eqb, cond-true, cond-false}
use Rattle.std.proofs.lemmas.Bool.Decides.{nat_tests}
use Rattle.std.proofs.lemmas.List.{get_or_default}
use Rattle.std.proofs.lemmas.List.Sums.{sum_by-cons}
use Rattle.interference.specs.Net.{Net, IsNetwork, IsVertex, count_of, vertices, neighbours, degree_of, neighbour_of, place_of}
use Rattle.interference.specs.Counts.{sum_over_ports, degree_sum_of, edge_count_of}
use Rattle.interference.proofs.Members.{Contains-tail, Contains-place_of, place_of-below}
use Rattle.interference.proofs.Neighbours.{both-ways}
use Rattle.interference.proofs.PortSums.{at_vertices, ports-are}
use Rattle.interference.proofs.Sums.{sum_by-const, sum_by-same, sum_by-add, sum_by-swap, sum_by-numbers}

-- c, counted as often as w stands in a list
abbrev pub at_each : List ℕ → ℕ → ℕ → ℕ
at_each xs w c = sum_by (λ x. if x == w then c else 0) xs

at_each-none : (xs : List ℕ) (w c : ℕ) → (Contains xs w → ⊥) → at_each xs w c ≡ 0
at_each-none [] w c absent = refl
at_each-none (x ∷ xs) w c absent =
    omega (
      arith,
      sum_by-cons (λ x. if x == w then c else 0) x xs,
      cond-false (x == w) c 0 (ne_eqb x w (λ e. absent (zero, omega arith, e))),
      at_each-none xs w c (λ there. absent (Contains-tail w x xs there)),
    )

abbrev Ascends : List ℕ → Type 0
Ascends xs = (i j : ℕ) → i < j → j < length xs → get_or xs i 0 < get_or xs j 0

above : (x w : ℕ) (xs : List ℕ) → Ascends (x ∷ xs) → Contains xs w → x < w
above x w xs ascends (k, below, is) =
    let less : x < get_or xs k 0 = ascends 0 (suc k) (omega arith) (omega arith) in
    omega (arith, less, get_or_default xs k 0 w below, is)

-- each number stands in an ascending list at most once
at_each-once : (xs : List ℕ) (w c : ℕ) → Ascends xs → Contains xs w → at_each xs w c ≡ c
at_each-once [] w c ascends (k, below, is) = absurd (omega arith)
at_each-once (x ∷ xs) w c ascends (zero, below, is) =
    omega (
      arith,
      sum_by-cons (λ x. if x == w then c else 0) x xs,
      cond-true (x == w) c 0 (eq-eqb x w is),
      at_each-none xs w c (λ there. let less = above x w xs ascends there in omega (arith, less, is)),
    )
at_each-once (x ∷ xs) w c ascends (suc k, below, is) =
    let there : Contains xs w = (k, omega arith, is) in
    let less = above x w xs ascends there in
    omega (
      arith,
      sum_by-cons (λ x. if x == w then c else 0) x xs,
      cond-false (x == w) c 0 (ne_eqb x w (λ e. omega (arith, less, e))),
      at_each-once xs w c (λ i j lt below. ascends (suc i) (suc j) (omega arith) (omega arith)) there,
    )

module _ (net : Net) (ok : IsNetwork net) where
  -- what counts if w is a neighbour of v counts if v is a neighbour of w
  either_end : (v w c : ℕ) → IsVertex net v → IsVertex net w → at_each (neighbours net v) w c ≡ at_each (neighbours net w) v c
  either_end v w c at_v at_w =
      ⊎_elim
      (λ near. let there : Contains (neighbours net v) w = Contains-place_of w (neighbours net v) near in
      at_each-once (neighbours net v) w c (λ i j. ok.ascending v i j at_v) there
      ∙ sym (at_each-once (neighbours net w) v c (λ i j. ok.ascending w i j at_w) (both-ways net ok v w at_v there)))
      (λ far. at_each-none (neighbours net v) w c (λ there. omega (arith, far, place_of-below w (neighbours net v) there))
      ∙ sym (at_each-none (neighbours net w) v c
      (λ there. omega (arith, far, place_of-below w (neighbours net v) (both-ways net ok w v at_w there)))))
      (cases_lt (place_of w (neighbours net v)) (degree_of net v))

  by_numbers : (g : ℕ → ℕ) (v : ℕ) → IsVertex net v → sum_by g (neighbours net v) ≡ sum_by (λ w. at_each (neighbours net v) w (g w)) (vertices net)
  by_numbers g v at_v =
      sum_by-numbers g (neighbours net v) 1 (count_of net) (λ k d lt.
      let at_w = ok.vertices v k at_v lt in
      let e = get_or_default (neighbours net v) k 0 d lt in
      (omega (arith, at_w.0, e), omega (arith, at_w.1, e)))

  -- a sum over each vertex and its neighbours is the same from the other end
  pub sum-swapped : (f : ℕ → ℕ → ℕ) → sum_by (λ v. sum_by (f v) (neighbours net v)) (vertices net)
      ≡ sum_by (λ v. sum_by (λ w. f w v) (neighbours net v)) (vertices net)
  sum-swapped f =
      let vs = vertices net in
      sum_by-same _ _ vs (λ k d lt. by_numbers (f (get_or vs k d)) (get_or vs k d) (at_vertices net k d lt))
      ∙ sum_by-swap (λ v w. at_each (neighbours net v) w (f v w)) vs vs
      ∙ sum_by-same _ _ vs (λ k d lt.
      let w = get_or vs k d in
      let at_w = at_vertices net k d lt in
      sum_by-same _ _ vs (λ j e below. either_end (get_or vs j e) w (f (get_or vs j e) w) (at_vertices net j e below) at_w)
      ∙ sym (by_numbers (λ v. f v w) w at_w))

  pub ports-swapped : (f : ℕ → ℕ → ℕ) → sum_over_ports net (λ v i. f v (neighbour_of net v i)) ≡ sum_over_ports net (λ v i. f (neighbour_of net v i) v)
  ports-swapped f = ports-are net f ∙ sum-swapped f ∙ sym (ports-are net (λ v w. f w v))

  -- each neighbour is a greater or a smaller vertex
  greater_or_smaller : (v : ℕ) → IsVertex net v → degree_of net v ≡ count_by (nat_lt v) (neighbours net v) + count_by (λ w. nat_lt w v) (neighbours net v)
  greater_or_smaller v at_v =
      let ws = neighbours net v in
      let ones : degree_of net v ≡ sum_by (λ w. 1) ws = omega (arith, sum_by-const 1 ws) in
      ones
      ∙ sum_by-same _ _ ws (λ k d lt. one (get_or ws k d) (λ e. ok.other v k at_v lt (get_or_default ws k 0 d lt ∙ e)))
      ∙ sum_by-add (λ w. cond (nat_lt v w) 1 0) (λ w. cond (nat_lt w v) 1 0) ws
    where
      one : (w : ℕ) → (w ≡ v → ⊥) → 1 ≡ cond (nat_lt v w) 1 0 + cond (nat_lt w v) 1 0
      one w apart = grind (arith, nat_tests)

  pub degrees-are_twice_edges : degree_sum_of net ≡ 2 * edge_count_of net
  degrees-are_twice_edges =
      let vs = vertices net in
      let upper : ℕ → ℕ = λ v. count_by (nat_lt v) (neighbours net v) in
      let lower : ℕ → ℕ = λ v. count_by (λ w. nat_lt w v) (neighbours net v) in
      let all : degree_sum_of net ≡ sum_by (λ v. upper v + lower v) vs = sum_by-same _ _ vs
      (λ k d lt. greater_or_smaller (get_or vs k d) (at_vertices net k d lt)) in
      let swapped : sum_by upper vs ≡ sum_by lower vs = sum-swapped (λ v w. cond (nat_lt v w) 1 0) in
      omega (arith, all, sum_by-add upper lower vs, swapped)
