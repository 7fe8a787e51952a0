-- Rows by vertex and port, and what is read of them.
use Rattle.std.proofs.Common.{◌≡◌, ℕ, zero, suc, ◌+◌, ◌-◌, ◌<◌, List, [], ◌∷◌, length, map, get_or, refl, sym, ap, ◌∙◌, subst, arith, Some, slice_get}
use Rattle.std.specs.Prelude.{All, option_map}
use Rattle.std.specs.List.{range_with_len}
use Rattle.std.proofs.lemmas.List.{length-map}
use Rattle.std.proofs.lemmas.List.FromFn.{length-range_with_len, get_or-range_with_len}
use Rattle.std.proofs.lemmas.List.Elements.{All-map}
use Rattle.std.proofs.lemmas.Option.{slice_get-map, slice_get-get_or, get_or_from_slice_get}
use Rattle.std.proofs.lemmas.Simd.{map-map}
use Rattle.port_rows.specs.Rows.{row_at, thing_at, HasShape}
use Rattle.interference.specs.Net.{Net, IsVertex, count_of, degree_of, vertices}

module _ {A : Type 0} where
  -- lists that have the same at each place
  pub same_lists : (xs ys : List A) → length xs ≡ length ys → ((k : ℕ) → k < length xs → slice_get xs k ≡ slice_get ys k) → xs ≡ ys
  same_lists [] [] long at = refl
  same_lists [] (y ∷ ys) long at = absurd (omega arith)
  same_lists (x ∷ xs) [] long at = absurd (omega arith)
  same_lists (x ∷ xs) (y ∷ ys) long at =
      let first : Some x ≡ Some y = at 0 (omega arith) in
      let head : x ≡ y = cc in
      ap (λ z. z ∷ xs) head ∙ ap (λ l. y ∷ l) (same_lists xs ys (omega arith) (λ k lt. at (suc k) (omega arith)))

  pub some_there : (xs : List A) (k : ℕ) → k < length xs → (x : A) × (slice_get xs k ≡ Some x)
  some_there [] k lt = absurd (omega arith)
  some_there (x ∷ xs) zero lt = (x, refl)
  some_there (x ∷ xs) (suc k) lt = some_there xs k (omega arith)

module _ {A B : Type 0} where
  pub map_same : (f g : A → B) → ((x : A) → f x ≡ g x) → (xs : List A) → map f xs ≡ map g xs
  map_same f g same [] = refl
  map_same f g same (x ∷ xs) = ap (λ y. y ∷ map f xs) (same x) ∙ ap (λ l. g x ∷ l) (map_same f g same xs)

  pub get_map : (f : A → B) (xs : List A) (k : ℕ) (x : A) (d : B) → slice_get xs k ≡ Some x → get_or (map f xs) k d ≡ f x
  get_map f xs k x d is = get_or_from_slice_get (map f xs) k (f x) d (slice_get-map f xs k ∙ ap (option_map f) is)

  -- a row of a table whose things f has changed
  pub row_map : (f : A → B) (rows : List (List A)) (k : ℕ) → get_or (map (λ row. map f row) rows) k [] ≡ map f (get_or rows k [])
  row_map f [] k = refl
  row_map f (row ∷ rows) zero = refl
  row_map f (row ∷ rows) (suc k) = row_map f rows k

  pub get_field : (f : A → B) (xs : List A) (k : ℕ) (d : A) → f (get_or xs k d) ≡ get_or (map f xs) k (f d)
  get_field f [] k d = refl
  get_field f (x ∷ xs) zero d = refl
  get_field f (x ∷ xs) (suc k) d = get_field f xs k d

range_at : (a n k : ℕ) → k < n → slice_get (range_with_len a n) k ≡ Some (a + k)
range_at a n k lt = slice_get-get_or (range_with_len a n) k 0 (omega (arith, length-range_with_len a n, lt)) ∙ ap Some (get_or-range_with_len a n k 0 lt)

pub by_range : {B : Type 0} (h : ℕ → B) (a n k : ℕ) → k < n → slice_get (map h (range_with_len a n)) k ≡ Some (h (a + k))
by_range h a n k lt = slice_get-map h (range_with_len a n) k ∙ ap (option_map h) (range_at a n k lt)

module _ (net : Net) where
  -- the table that has g v i at vertex v and port i
  abbrev pub row_by : {B : Type 0} → (ℕ → ℕ → B) → ℕ → List B
  row_by g v = map (g v) (range_with_len 0 (degree_of net v))

  abbrev pub table_by : {B : Type 0} → (ℕ → ℕ → B) → List (List B)
  table_by g = map (row_by g) (vertices net)

  module _ {A B : Type 0} (f : A → B) (g : ℕ → ℕ → B) (rows : List (List A)) (shape : HasShape net rows)
      (at : (v i : ℕ) → IsVertex net v → i < degree_of net v → (x : A) → thing_at rows v i ≡ Some x → f x ≡ g v i) where
    row_is : (v : ℕ) → IsVertex net v → map f (row_at rows v) ≡ row_by g v
    row_is v vertex =
        same_lists _ _ (length-map (row_at rows v) f ∙ shape.row v vertex ∙ sym (length-map (range_with_len 0 (degree_of net v)) (g v)
        ∙ length-range_with_len 0 (degree_of net v)))
        (λ i lt.
        let within : i < length (row_at rows v) = omega (arith, lt, length-map (row_at rows v) f) in
        let below : i < degree_of net v = omega (arith, within, shape.row v vertex) in
        let there = some_there (row_at rows v) i within in
        slice_get-map f (row_at rows v) i ∙ ap (option_map f) there.1 ∙ ap Some (at v i vertex below there.0 there.1)
        ∙ sym (by_range (g v) 0 (degree_of net v) i below ∙ ap (λ j. Some (g v j)) (omega arith)))

    pub by_entries : map (λ row. map f row) rows ≡ table_by g
    by_entries =
        same_lists _ _ (length-map rows (λ row. map f row) ∙ shape.count ∙ sym (length-map (vertices net) (row_by g)
        ∙ length-range_with_len 1 (count_of net)))
        (λ k lt.
        let within : k < length rows = omega (arith, lt, length-map rows (λ row. map f row)) in
        let vertex : IsVertex net (1 + k) = (omega arith, omega (arith, within, shape.count)) in
        let back : 1 + k - 1 ≡ k = omega arith in
        slice_get-map (λ row. map f row) rows k ∙ ap (option_map (λ row. map f row)) (slice_get-get_or rows k [] within)
        ∙ ap (λ j. Some (map f (get_or rows j []))) (sym back) ∙ ap Some (row_is (1 + k) vertex)
        ∙ sym (by_range (row_by g) 1 (count_of net) k (omega (arith, within, shape.count))))

  module _ {A : Type 0} (vertex_of : A → ℕ) (nodes : List A) (order : map vertex_of nodes ≡ vertices net) where
    pub length-nodes : length nodes ≡ count_of net
    length-nodes = sym (length-map nodes vertex_of) ∙ ap (λ l. length l) order ∙ length-range_with_len 1 (count_of net)

    -- the node of a vertex
    pub node_of : (v : ℕ) → IsVertex net v → (a : A) × (slice_get nodes (v - 1) ≡ Some a) × (vertex_of a ≡ v)
    node_of v vertex =
        let within : v - 1 < count_of net = omega (arith, vertex.0, vertex.1) in
        let there = some_there nodes (v - 1) (omega (arith, within, length-nodes)) in
        let same : Some (vertex_of there.0) ≡ Some (1 + (v - 1)) = sym (slice_get-map vertex_of nodes (v - 1) ∙ ap (option_map vertex_of) there.1)
        ∙ ap (λ l. slice_get l (v - 1)) order ∙ range_at 1 (count_of net) (v - 1) within in
        let is : vertex_of there.0 ≡ 1 + (v - 1) = cc in
        (there.0, there.1, omega (arith, is, vertex.0))

    -- what nodes have by port
    module _ {E : Type 0} (ends : A → List E) (long : (a : A) → length (ends a) ≡ degree_of net (vertex_of a)) where
      pub shape_of : HasShape net (map ends nodes)
      shape_of = record {
        count = length-map nodes ends ∙ length-nodes;
        row = λ v vertex.
            let n = node_of v vertex in
            ap (λ l. length l) (get_map ends nodes (v - 1) n.0 [] n.1) ∙ long n.0 ∙ ap (λ u. degree_of net u) n.2;
      }

    module _ {E B : Type 0} (ends : A → List E) (place : E → B) (g : ℕ → ℕ → B) (are : (a : A) → map place (ends a) ≡ row_by g (vertex_of a)) where
      pub by_nodes : map (λ row. map place row) (map ends nodes) ≡ table_by g
      by_nodes = map-map (λ row. map place row) ends nodes ∙ map_same (λ a. map place (ends a)) (λ a. row_by g (vertex_of a)) are nodes
          ∙ sym (map-map (row_by g) vertex_of nodes) ∙ ap (map (row_by g)) order

      pub entry_of : (v i : ℕ) → IsVertex net v → i < degree_of net v → (x : E) → thing_at (map ends nodes) v i ≡ Some x → place x ≡ g v i
      entry_of v i vertex lt x is =
          let n = node_of v vertex in
          let at : slice_get (ends n.0) i ≡ Some x = ap (λ l. slice_get l i) (sym (get_map ends nodes (v - 1) n.0 [] n.1)) ∙ is in
          let below : i < degree_of net (vertex_of n.0) = subst (λ u. i < degree_of net u) (sym n.2) lt in
          let same : Some (place x) ≡ Some (g (vertex_of n.0) (0 + i)) = sym (slice_get-map place (ends n.0) i ∙ ap (option_map place) at)
          ∙ ap (λ l. slice_get l i) (are n.0) ∙ by_range (g (vertex_of n.0)) 0 (degree_of net (vertex_of n.0)) i below in
          let here : place x ≡ g (vertex_of n.0) (0 + i) = cc in
          here ∙ ap (λ u. g u (0 + i)) n.2 ∙ ap (λ j. g v j) (omega arith)

module _ {R X Y Z : Type 0} (items : R → List X) (rows : List R) where
  pub of_fields : (h : X → Y) (p : Y → Z) → map (λ row. map p row) (map (λ row. map h (items row)) rows) ≡ map (λ row. map (λ x. p (h x)) row) (map items rows)
  of_fields h p = map-map (λ row. map p row) (λ row. map h (items row)) rows ∙ map_same _ _ (λ row. map-map p h (items row)) rows
      ∙ sym (map-map (λ row. map (λ x. p (h x)) row) items rows)

module _ {R X Y : Type 0} (items : R → List X) (rows : List R) where
  pub of_items : (f : X → Y) (all : List (List X)) → map items rows ≡ all → map (λ row. map f (items row)) rows ≡ map (λ row. map f row) all
  of_items f all is = sym (map-map (λ row. map f row) items rows) ∙ ap (map (λ row. map f row)) is

  pub all_rows : (P : Y → Type 0) (h : X → Y) → All (λ row. All (λ x. P (h x)) (items row)) rows → All (λ row. All P row) (map (λ row. map h (items row)) rows)
  all_rows P h all = All-map (λ row. All P row) (λ row. map h (items row)) rows
      (λ k d lt. All-map P h (items (get_or rows k d)) (all k d lt))
