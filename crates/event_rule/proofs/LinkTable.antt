-- The table of links after one of them has changed.
use Rattle.std.proofs.Common.{◌≡◌, ℕ, ◌-◌, ◌<◌, ◌≤◌, List, [], map, length, get_or, set, sym, ap, ◌∙◌, arith, ⊎_elim}
use Rattle.std.proofs.lemmas.Bool.{cases_eq}
use Rattle.std.proofs.lemmas.List.{get_or-set_same, get_or-set_other, length-set, get_or_default, get_or-map, length-map, map-set}
use Rattle.event_rule.specs.State.{Link, HasLink, no_link, link_at, set_link}
use Rattle.event_rule.proofs.Parts.{set-same}

module _ {M : Type 0} (links : List (List (Link M))) (v i : ℕ) (link : Link M) (low : 1 ≤ v) (in_rows : v - 1 < length links)
    (in_row : i < length (get_or links (v - 1) [])) where
  pub link_same : link_at (set_link links v i link) v i ≡ link
  link_same = ap (λ row. get_or row i no_link) (get_or-set_same links (v - 1) (set (get_or links (v - 1) []) i link) [] in_rows) ∙
      get_or-set_same (get_or links (v - 1) []) i link no_link in_row

  pub link_other : (u j : ℕ) → 1 ≤ u → (u ≡ v → j ≡ i → ⊥) → link_at (set_link links v i link) u j ≡ link_at links u j
  link_other u j low' apart = ⊎_elim
      (λ same. let ne : j ≡ i → ⊥ = apart same in
      ap (λ k. link_at (set_link links v i link) k j) same
      ∙ ap (λ row. get_or row j no_link) (get_or-set_same links (v - 1) (set (get_or links (v - 1) []) i link) [] in_rows)
      ∙ get_or-set_other (get_or links (v - 1) []) i j link no_link ne ∙ ap (λ k. link_at links k j) (sym same))
      (λ ne. let off : u - 1 ≡ v - 1 → ⊥ = λ e. ne (omega arith) in
      ap (λ row. get_or row j no_link) (get_or-set_other links (v - 1) (u - 1) (set (get_or links (v - 1) []) i link) [] off))
      (cases_eq u v)

  -- what the change leaves of a link it leaves of every link
  pub link_field : {A : Type 0} (f : Link M → A) → f link ≡ f (link_at links v i) → (u j : ℕ) →
      f (link_at (set_link links v i link) u j) ≡ f (link_at links u j)
  link_field f same u j = ⊎_elim
      (λ at. ap (λ a. f (get_or (get_or (set_link links v i link) a []) j no_link)) at ∙ here ∙ ap (λ a. f (get_or (get_or links a []) j no_link)) (sym at))
      (λ ne. ap (λ row. f (get_or row j no_link)) (get_or-set_other links (v - 1) (u - 1) (set (get_or links (v - 1) []) i link) [] ne))
      (cases_eq (u - 1) (v - 1))
    where
      here : f (link_at (set_link links v i link) v j) ≡ f (link_at links v j)
      here = ⊎_elim
          (λ at. ap (λ k. f (link_at (set_link links v i link) v k)) at ∙ ap f link_same ∙ same ∙ ap (λ k. f (link_at links v k)) (sym at))
          (λ ne. ap (λ row. f (get_or row j no_link)) (get_or-set_same links (v - 1) (set (get_or links (v - 1) []) i link) [] in_rows) ∙
          ap f (get_or-set_other (get_or links (v - 1) []) i j link no_link ne))
          (cases_eq j i)

  pub rows_kept : length (set_link links v i link) ≡ length links
  rows_kept = length-set links (v - 1) _

  pub row_kept : (a : ℕ) → length (get_or (set_link links v i link) a []) ≡ length (get_or links a [])
  row_kept a = ⊎_elim
      (λ at. ap (λ k. length (get_or (set_link links v i link) k [])) at ∙
      ap length (get_or-set_same links (v - 1) (set (get_or links (v - 1) []) i link) [] in_rows)
      ∙ length-set (get_or links (v - 1) []) i link ∙ ap (λ k. length (get_or links k [])) (sym at))
      (λ ne. ap length (get_or-set_other links (v - 1) a (set (get_or links (v - 1) []) i link) [] ne))
      (cases_eq a (v - 1))

-- a link that is written where it stands leaves the table
pub link_kept : {M : Type 0} (links : List (List (Link M))) (v i : ℕ) → HasLink links v i → set_link links v i (link_at links v i) ≡ links
link_kept links v i has =
    let row = get_or links (v - 1) [] in
    ap (λ r. set links (v - 1) r) (set-same row i (get_or row i no_link) has.2 (get_or_default row i no_link (get_or row i no_link) has.2))
    ∙ set-same links (v - 1) row has.1 (get_or_default links (v - 1) [] row has.1)

-- A table is kept as a list of rows, each with its links in it. One link of one row, and what it becomes:
module _ {R M : Type 0} (f : R → List (Link M)) (rows : List R) (v i : ℕ) (row : R) (link : Link M) (has : HasLink (map f rows) v i)
    (row_is : row ≡ get_or rows (v - 1) row) (link_is : link ≡ get_or (f row) i link) where
  row_in : f row ≡ get_or (map f rows) (v - 1) []
  row_in = ap f row_is ∙ sym (get_or-map f rows (v - 1) row [] (omega (arith, has.1, length-map rows f)))

  pub link_found : link ≡ link_at (map f rows) v i
  link_found =
      let lt : i < length (f row) = omega (arith, has.2, ap length row_in) in
      link_is ∙ get_or_default (f row) i link no_link lt ∙ ap (λ l. get_or l i no_link) row_in

  pub link_written : (row' : R) (link' : Link M) → f row' ≡ set (f row) i link' → map f (set rows (v - 1) row') ≡ set_link (map f rows) v i link'
  link_written row' link' is =
      map-set f rows (v - 1) row' ∙ ap (λ l. set (map f rows) (v - 1) l) (is ∙ ap (λ l. set l i link') row_in)
