-- Every network has its forests, and what its nodes hear first tells them.
use Rattle.std.proofs.Common.{◌≡◌, ◌≢◌, ℕ, suc, ◌<◌, ◌==◌, Bool, true, false, List, [], ◌∷◌, ◌++◌, length, refl, ap, sym, ◌∙◌, arith, get_or, inl, inr}
use Rattle.std.specs.Prelude.{if◌then◌else◌, map, filter, Some, nat_lt}
use Rattle.std.specs.List.{Contains}
use Rattle.std.proofs.lemmas.Bool.Decides.{nat_tests}
use Rattle.std.proofs.lemmas.Bool.{cases_eq}
use Rattle.std.proofs.lemmas.List.Elements.{Contains-get_or}
use Rattle.interference.specs.Net.{Net, IsNetwork, IsVertex, id_of, neighbours, degree_of, neighbour_of, place_of}
use Rattle.interference.proofs.Members.{filter-map}
use Rattle.interference.proofs.Neighbours.{both-ways, neighbour-is_vertex, neighbour-id, neighbour-ids, id-small, bars-within, degree-within, port-of}
use Rattle.interference.proofs.Neighbours.{higher_count-le-forests}
use Rattle.forests.specs.Forests.{higher, up, parent, number, role_of, role_by}
use Rattle.forests.specs.Order.{in_order}
use Rattle.forests.proofs.Sorts.{order-map}
use Rattle.forests.proofs.Parents.{parent-in_up, parent-higher, parent-below, up-neighbour}
use Rattle.forests.proofs.Ends.{role-known, up-parent, down-parent}
use Rattle.forests.specs.declared.numbering.Role.TheVariants.{Unknown, Up}
use Rattle.colour_laws.proofs.Expected.{among, IsForest, IsOriented, Fresh}
use Rattle.colour_laws.proofs.Lists.{count_by-map}

-- A place in a list of keys is that in the list, where the key tells entries apart.
same_test : (key : ℕ → ℕ) (w x : ℕ) → (key w ≡ key x → w ≡ x) → (key w == key x) ≡ (w == x)
same_test key w x apart =
    elim (cases_eq w x) [
      | inl e ↦ let a : key w ≡ key x = ap key e in grind (arith, nat_tests)
      | inr ne ↦ let b : key w ≢ key x = λ a. ne (apart a) in grind (arith, nat_tests)
    ]

place-map : (key : ℕ → ℕ) (w : ℕ) (xs : List ℕ) → ((x : ℕ) → Contains xs x → key w ≡ key x → w ≡ x) → place_of (key w) (map key xs) ≡ place_of w xs
place-map key w [] apart = refl
place-map key w (x ∷ xs) apart =
    let test : (key w == key x) ≡ (w == x) = same_test key w x (apart x (0, omega arith, refl)) in
    let rest : place_of (key w) (map key xs) ≡ place_of w xs = place-map key w xs (λ y c. apart y (suc c.0, omega (arith, c.1), c.2)) in
    rw (test, rest) refl

up-if : (b : Bool) (x y : ℕ) → (if b then Up x else Unknown) ≡ (if b then Up (if b then x else y) else Unknown)
up-if true x y = refl
up-if false x y = refl

among_more : (x n : ℕ) (earlier : List ℕ) → x ≢ n → among x earlier ≡ false → among x (earlier ++ (n ∷ [])) ≡ false
among_more x n [] ne h = let e : (n == x) ≡ false = grind (arith, nat_tests) in rw e refl
among_more x n (m ∷ earlier) ne h = let more : among x earlier ≡ false → among x (earlier ++ (n ∷ [])) ≡ false = among_more x n earlier ne in
    grind (arith, nat_tests)

fresh_of : (id : ℕ → ℕ) (ws : List ℕ) (earlier : List ℕ) → ((k : ℕ) → k < length ws → among (id (get_or ws k 0)) earlier ≡ false) →
    ((i j : ℕ) → i < j → j < length ws → id (get_or ws i 0) ≢ id (get_or ws j 0)) → Fresh earlier (map id ws)
fresh_of id [] earlier new apart = tt
fresh_of id (w ∷ ws) earlier new apart = (
  new 0 (omega arith),
  fresh_of id ws (earlier ++ (id w ∷ [])) (λ k h. among_more (id (get_or ws k 0)) (id w) earlier
      (λ e. apart 0 (suc k) (omega arith) (omega arith) (sym e)) (new (suc k) (omega arith)))
      (λ i j l h. apart (suc i) (suc j) (omega arith) (omega arith)),
)

module _ (net : Net) (ok : IsNetwork net) where
  pub has_start : IsOriented net
  has_start = record {
    fresh = λ v is_vertex. fresh_of (id_of net) (neighbours net v) [] (λ k h. refl) (λ i j l h. neighbour-ids net ok v i j is_vertex l h);
    not_own = λ v k is_vertex h. neighbour-id net ok v k is_vertex h;
    few_higher = λ v is_vertex. rw (count_by-map (nat_lt (id_of net v)) (id_of net) (neighbours net v)) (higher_count-le-forests net ok v is_vertex);
  }

  -- what a node makes of the identifiers of its neighbours
  pub role_by-is : (v k : ℕ) → IsVertex net v → k < degree_of net v →
      role_by (id_of net v) (map (id_of net) (neighbours net v)) (id_of net (neighbour_of net v k))
      ≡ (if nat_lt (id_of net v) (id_of net (neighbour_of net v k)) then Up (number net v (neighbour_of net v k)) else Unknown)
  unfolding role_by up
  role_by-is v k is_vertex h =
      let w : ℕ = neighbour_of net v k in
      let list : in_order (λ i. i) (filter (nat_lt (id_of net v)) (map (id_of net) (neighbours net v))) ≡ map (id_of net) (up net v) =
      ap (in_order (λ i. i)) (filter-map (nat_lt (id_of net v)) (id_of net) (neighbours net v)) ∙ order-map (λ i. i) (id_of net) (higher net v) in
      let place : place_of (id_of net w) (map (id_of net) (up net v)) ≡ place_of w (up net v) =
      place-map (id_of net) w (up net v) (λ x c same. ok.distinct w x (ok.vertices v k is_vertex h)
      (neighbour-is_vertex net ok v x is_vertex (up-neighbour net v x c)) same) in
      ap (λ (n : ℕ). if nat_lt (id_of net v) (id_of net w) then Up n else Unknown) (ap (place_of (id_of net w)) list ∙ place)
      ∙ up-if (nat_lt (id_of net v) (id_of net w)) (place_of w (up net v)) (place_of v (up net w))

  near : (v k : ℕ) → k < degree_of net v → Contains (neighbours net v) (neighbour_of net v k)
  near v k h = Contains-get_or (neighbours net v) k 0 h

  pub has_forest : IsForest net
  has_forest = record {
    known = λ v k is_vertex h. role-known net v (neighbour_of net v k);
    up = λ v k f is_vertex h e.
        let w : ℕ = neighbour_of net v k in
        let is_parent : parent net f v ≡ Some w = (up-parent net ok v w is_vertex (near v k h) f).0 e in (
          is_parent,
          (down-parent net ok w v (ok.vertices v k is_vertex h) (both-ways net ok v w is_vertex (near v k h)) f).1 is_parent,
          parent-below net ok v is_vertex f w is_parent,
        );
    above = λ f v w is_vertex e.
        let has : Contains (neighbours net v) w = up-neighbour net v w (parent-in_up net f v w e) in
        let port = port-of net ok v w has in
        (port.0, port.1, ap (role_of net v) port.2 ∙ (up-parent net ok v w is_vertex has f).1 e);
    down = λ v k f is_vertex h e.
        let w : ℕ = neighbour_of net v k in
        let is_child : parent net f w ≡ Some v = (down-parent net ok v w is_vertex (near v k h) f).0 e in
        let inside : IsVertex net w = ok.vertices v k is_vertex h in
        ((up-parent net ok w v inside (both-ways net ok v w is_vertex (near v k h)) f).1 is_child, parent-below net ok w inside f v is_child);
    apart = λ f v w e same. let above : id_of net v < id_of net w = parent-higher net f v w e in omega arith;
    small = id-small net ok;
    few = degree-within net ok;
    few_bars = bars-within net ok;
  }
