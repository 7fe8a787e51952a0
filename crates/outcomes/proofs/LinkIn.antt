-- The link out of a vertex by a port, as the rows of links have it.
use Rattle.std.proofs.Common.{◌≡◌, ℕ, ◌-◌, ◌<◌, ◌≤◌, List, [], length, map, get_or, refl, sym, ap, ◌∙◌, arith, Fits, w32, w64}
use Rattle.std.proofs.lemmas.List.{get_or-map, length-map}

-- the place of the row of a vertex is a `usize`
pub place_fits : (v : ℕ) → Fits w32 v → Fits w64 (v - 1)
place_fits v fits = omega arith

-- rows of which now is said, and a vertex that has one of them
module _ {R X Y : Type 0} (items : R → List X) (f : X → Y) (rows : List R) (now : List (List Y))
    (is : map (λ row. map f (items row)) rows ≡ now) (v : ℕ) (vertex : (1 ≤ v) × (v ≤ length now)) where
  pub row_there : (n : ℕ) → n ≡ length rows → v - 1 < n
  row_there n long = omega (arith, vertex.0, vertex.1, ap length is, length-map rows (λ row. map f (items row)))

  -- the row of the vertex
  module _ (row : R) (at : row ≡ get_or rows (v - 1) row) where
    row_is : map f (items row) ≡ get_or now (v - 1) []
    row_is =
        ap (λ r. map f (items r)) at ∙ sym (get_or-map (λ r. map f (items r)) rows (v - 1) row [] (row_there (length rows) refl))
        ∙ ap (λ l. get_or l (v - 1) []) is

    pub port_there : (port n : ℕ) → n ≡ length (items row) → port < length (get_or now (v - 1) []) → port < n
    port_there port n long lt = omega (arith, ap length row_is, length-map (items row) f)

    pub thing_is : (port : ℕ) (x : X) (d : Y) → port < length (get_or now (v - 1) []) → x ≡ get_or (items row) port x
        → f x ≡ get_or (get_or now (v - 1) []) port d
    thing_is port x d lt here =
        ap f here ∙ sym (get_or-map f (items row) port x d (port_there port (length (items row)) refl lt)) ∙ ap (λ l. get_or l port d) row_is
