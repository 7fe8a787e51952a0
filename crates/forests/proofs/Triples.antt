-- The triples of a network: which they are, and that they ascend.
use Rattle.std.proofs.Common.{◌≡◌, ℕ, zero, suc, ◌+◌, ◌<◌, ◌≤◌, List, [], ◌∷◌, ◌++◌, refl, ap, sym, ◌∙◌, arith, subst, Option, Some, None, inl, inr, ◌⊎◌}
use Rattle.std.specs.List.{All, AllPairs, Contains, filter_map, flat_map, cons_option, range_with_len}
use Rattle.std.specs.Option.{option_map}
use Rattle.std.proofs.lemmas.List.Elements.{All-cons, All-append, All-weaker, All-contains, Contains-append_left, Contains-append_right, Contains-append_cases}
use Rattle.std.proofs.lemmas.List.Kept.{AllPairs-cons}
use Rattle.interference.specs.Net.{Net, IsNetwork, IsVertex, count_of, vertices, forest_count_of}
use Rattle.interference.proofs.Members.{Contains-tail, Contains-range, range-bounds}
use Rattle.forests.specs.Forests.{parent, edge_up, forest_edges, triples, IsBefore}
use Rattle.forests.proofs.Orders.{pairs-head, pairs-tail}
use Rattle.forests.proofs.Parents.{parent-below}

-- ---- which they are
none-there : {X : Type 0} (x : X) → Contains [] x → ⊥
none-there x h = omega (arith, h.1)

first-or_rest : {X : Type 0} (x y : X) (ys : List X) → Contains (y ∷ ys) x → (y ≡ x) ⊎ Contains ys x
first-or_rest x y ys (zero, low, is) = inl is
first-or_rest x y ys (suc k, low, is) = inr (k, omega arith, is)

kept-rest : {Y : Type 0} (y : Y) (o : Option Y) (rest : List Y) → Contains rest y → Contains (cons_option o rest) y
kept-rest y None rest h = h
kept-rest y (Some z) rest h = Contains-tail y z rest h

kept-from : {Y : Type 0} (y : Y) (o : Option Y) (rest : List Y) → Contains (cons_option o rest) y → (o ≡ Some y) ⊎ Contains rest y
kept-from y None rest h = inr h
kept-from y (Some z) rest h =
    elim (first-or_rest y z rest h) [
      | inl same ↦ inl (ap (λ x. Some x) same)
      | inr more ↦ inr more
    ]

in-filter_map : {X Y : Type 0} (h : X → Option Y) (xs : List X) (x : X) (y : Y) → Contains xs x → h x ≡ Some y → Contains (filter_map h xs) y
in-filter_map h [] x y has is = absurd (none-there x has)
in-filter_map h (z ∷ zs) x y has is =
    elim (first-or_rest x z zs has) [
      | inl same ↦ subst (λ o. Contains (cons_option o (filter_map h zs)) y) (sym (ap h same ∙ is)) (0, omega arith, refl)
      | inr more ↦ kept-rest y (h z) (filter_map h zs) (in-filter_map h zs x y more is)
    ]

from-filter_map : {X Y : Type 0} (h : X → Option Y) (xs : List X) (y : Y) → Contains (filter_map h xs) y → (x : X) × Contains xs x × (h x ≡ Some y)
from-filter_map h [] y has = absurd (none-there y has)
from-filter_map h (z ∷ zs) y has =
    elim (kept-from y (h z) (filter_map h zs) has) [
      | inl is ↦ (z, (0, omega arith, refl), is)
      | inr more ↦ let (x, there, is) = from-filter_map h zs y more in (x, Contains-tail x z zs there, is)
    ]

in-flat_map : {X Y : Type 0} (f : X → List Y) (xs : List X) (x : X) (y : Y) → Contains xs x → Contains (f x) y → Contains (flat_map f xs) y
in-flat_map f [] x y has there = absurd (none-there x has)
in-flat_map f (z ∷ zs) x y has there =
    elim (first-or_rest x z zs has) [
      | inl same ↦ Contains-append_left (f z) (flat_map f zs) y (subst (λ u. Contains (f u) y) (sym same) there)
      | inr more ↦ Contains-append_right (f z) (flat_map f zs) y (in-flat_map f zs x y more there)
    ]

from-flat_map : {X Y : Type 0} (f : X → List Y) (xs : List X) (y : Y) → Contains (flat_map f xs) y → (x : X) × Contains xs x × Contains (f x) y
from-flat_map f [] y has = absurd (none-there y has)
from-flat_map f (z ∷ zs) y has =
    elim (Contains-append_cases (f z) (flat_map f zs) y has) [
      | inl here ↦ (z, (0, omega arith, refl), here)
      | inr more ↦ let (x, there, is) = from-flat_map f zs y more in (x, Contains-tail x z zs there, is)
    ]

edge-parts : (g u f v w : ℕ) (o : Option ℕ) → option_map {U = ℕ × ℕ × ℕ} (λ x. (g, u, x)) o ≡ Some (f, v, w) → (g ≡ f) × (u ≡ v) × (o ≡ Some w)
edge-parts g u f v w None e = absurd (cc)
edge-parts g u f v w (Some x) e =
    let same : ◌≡◌ {A = ℕ × ℕ × ℕ} (g, u, x) (f, v, w) = cc in
    (ap (λ (t : ℕ × ℕ × ℕ). t.0) same, ap (λ (t : ℕ × ℕ × ℕ). t.1) same, ap (λ (t : ℕ × ℕ × ℕ). Some t.2) same)

pub triple-from : (net : Net) (f v w : ℕ) → Contains (triples net) (f, v, w) → IsVertex net v × (parent net f v ≡ Some w)
unfolding triples
triple-from net f v w has =
    let (g, numbered, there) = from-flat_map (forest_edges net) (range_with_len 0 (forest_count_of net)) (f, v, w) has in
    let (u, vertex, is) = from-filter_map (edge_up net g) (vertices net) (f, v, w) there in
    let parts : (g ≡ f) × (u ≡ v) × (parent net g u ≡ Some w) = edge-parts g u f v w (parent net g u) is in
    let bounds : (1 ≤ u) × (u < 1 + count_of net) = All-contains (λ (x : ℕ). (1 ≤ x) ×
    (x < 1 + count_of net)) (vertices net) u (range-bounds 1 (count_of net)) vertex in (
      (omega (arith, parts.1, bounds.0), omega (arith, parts.1, bounds.1)),
      sym (ap (λ (h : ℕ). parent net h v) parts.0) ∙ (sym (ap (λ (x : ℕ). parent net g x) parts.1) ∙ parts.2),
    )

pub triple-in : (net : Net) → IsNetwork net → (f v w : ℕ) → IsVertex net v → parent net f v ≡ Some w → Contains (triples net) (f, v, w)
unfolding triples
triple-in net ok f v w vertex e =
    let below : f < forest_count_of net = parent-below net ok v vertex f w e in
    in-flat_map (forest_edges net) (range_with_len 0 (forest_count_of net)) f (f, v, w) (Contains-range 0 (forest_count_of net) f (omega arith) (omega arith))
    (in-filter_map (edge_up net f) (vertices net) v (f, v, w) (Contains-range 1 (count_of net) v vertex.0 (omega (arith, vertex.1)))
    (ap (option_map (λ (x : ℕ). (f, v, x))) e))

-- ---- that they ascend
pairs-append : {X : Type 0} (R : X → X → Type 0) (xs ys : List X) → AllPairs R xs → AllPairs R ys → All (λ x. All (R x) ys) xs → AllPairs R (xs ++ ys)
pairs-append R [] ys first second across = second
pairs-append R (x ∷ xs) ys first second across =
    AllPairs-cons R x (xs ++ ys) (All-append (R x) xs ys (pairs-head R x xs first) (across 0 x (omega arith)))
    (pairs-append R xs ys (pairs-tail R x xs first) second (λ k d l. across (suc k) d (omega arith)))

-- the edges of forest f from the vertices a and on
abbrev IsOf : ℕ → ℕ → ℕ × ℕ × ℕ → Type 0
IsOf f a edge = (edge.0 ≡ f) × (a ≤ edge.1)

put-edge : (f a : ℕ) (o : Option ℕ) (rest : List (ℕ × ℕ × ℕ)) → All (IsOf f (a + 1)) rest → AllPairs IsBefore rest →
    All (IsOf f a) (cons_option (option_map (λ w. (f, a, w)) o) rest) × AllPairs IsBefore (cons_option (option_map (λ w. (f, a, w)) o) rest)
put-edge f a None rest later up = (All-weaker (IsOf f (a + 1)) (IsOf f a) (λ e h. (h.0, omega (arith, h.1))) rest later, up)
put-edge f a (Some w) rest later up =
    let weak : All (IsOf f a) rest = All-weaker (IsOf f (a + 1)) (IsOf f a) (λ e h. (h.0, omega (arith, h.1))) rest later in
    let after : All (IsBefore (f, a, w)) rest = All-weaker (IsOf f (a + 1)) (IsBefore (f, a, w)) (λ e h. inr (sym h.0, omega (arith, h.1))) rest later in
    (All-cons (IsOf f a) (f, a, w) rest (refl, omega arith) weak, AllPairs-cons IsBefore (f, a, w) rest after up)

forest-ascends : (net : Net) (f a n : ℕ) → All (IsOf f a) (filter_map (edge_up net f) (range_with_len a n)) ×
    AllPairs IsBefore (filter_map (edge_up net f) (range_with_len a n))
forest-ascends net f a zero = (λ k d l. absurd (omega arith), λ i j d l m. absurd (omega arith))
forest-ascends net f a (suc n) =
    let rest : All (IsOf f (a + 1)) (filter_map (edge_up net f) (range_with_len (a + 1) n)) ×
    AllPairs IsBefore (filter_map (edge_up net f) (range_with_len (a + 1) n)) = forest-ascends net f (a + 1) n in
    put-edge f a (parent net f a) (filter_map (edge_up net f) (range_with_len (a + 1) n)) rest.0 rest.1

-- the edges of the forests a and on
forests-ascend : (net : Net) (a n : ℕ) → All (λ e. a ≤ e.0) (flat_map (forest_edges net) (range_with_len a n)) ×
    AllPairs IsBefore (flat_map (forest_edges net) (range_with_len a n))
forests-ascend net a zero = (λ k d l. absurd (omega arith), λ i j d l m. absurd (omega arith))
forests-ascend net a (suc n) =
    let one : All (IsOf a 1) (forest_edges net a) × AllPairs IsBefore (forest_edges net a) = forest-ascends net a 1 (count_of net) in
    let rest : All (λ e. a + 1 ≤ e.0) (flat_map (forest_edges net) (range_with_len (a + 1) n)) ×
    AllPairs IsBefore (flat_map (forest_edges net) (range_with_len (a + 1) n)) = forests-ascend net (a + 1) n in
    let low : All (λ e. a ≤ e.0) (forest_edges net a) = All-weaker (IsOf a 1) (λ e. a ≤ e.0) (λ e h. omega (arith, h.0)) (forest_edges net a) one.0 in
    let more : All (λ e. a ≤ e.0) (flat_map (forest_edges net) (range_with_len (a + 1) n)) =
    All-weaker (λ e. a + 1 ≤ e.0) (λ e. a ≤ e.0) (λ e h. omega arith) (flat_map (forest_edges net) (range_with_len (a + 1) n)) rest.0 in (
      All-append (λ e. a ≤ e.0) (forest_edges net a) (flat_map (forest_edges net) (range_with_len (a + 1) n)) low more,
      pairs-append IsBefore (forest_edges net a) (flat_map (forest_edges net) (range_with_len (a + 1) n)) one.1 rest.1
          (All-weaker (IsOf a 1) (λ x. All (IsBefore x) (flat_map (forest_edges net) (range_with_len (a + 1) n)))
          (λ x h. All-weaker (λ e. a + 1 ≤ e.0) (IsBefore x) (λ e l. inl (omega (arith, h.0))) (flat_map (forest_edges net) (range_with_len (a + 1) n))
          rest.0) (forest_edges net a) one.0),
    )

pub triples-ascend : (net : Net) → AllPairs IsBefore (triples net)
unfolding triples
triples-ascend net = (forests-ascend net 0 (forest_count_of net)).1
