-- A thing of a row changes places with one of another row.
use Rattle.std.proofs.Common.{◌≡◌, ◌≢◌, ℕ, zero, suc, ◌-◌, ◌<◌, ◌≤◌, List, [], ◌∷◌, length, set, get_or, refl, sym, ap, ◌∙◌, arith, ⊎_elim, Some, slice_get}
use Rattle.std.proofs.lemmas.Bool.{cases_eq}
use Rattle.std.proofs.lemmas.List.{get_or-set_same, get_or-set_other, length-set, set-get_or}
use Rattle.std.proofs.lemmas.Option.{slice_get_read}
use Rattle.port_rows.specs.Crossing.{IsSwapped}
use Rattle.port_rows.specs.Rows.{row_at, thing_at}

get_same : {A : Type 0} (xs : List A) (i : ℕ) (x : A) → i < length xs → slice_get (set xs i x) i ≡ Some x
get_same [] i x lt = absurd (omega arith)
get_same (y ∷ ys) zero x lt = refl
get_same (y ∷ ys) (suc i) x lt = get_same ys i x (omega arith)

get_other : {A : Type 0} (xs : List A) (i k : ℕ) (x : A) → k ≢ i → slice_get (set xs i x) k ≡ slice_get xs k
get_other [] i k x ne = refl
get_other (y ∷ ys) zero zero x ne = absurd (ne refl)
get_other (y ∷ ys) zero (suc k) x ne = refl
get_other (y ∷ ys) (suc i) zero x ne = refl
get_other (y ∷ ys) (suc i) (suc k) x ne = get_other ys i k x (λ e. ne (ap suc e))

-- a row that is taken out and put back
pub taken_out : {A : Type 0} (rows : List (List A)) (k : ℕ) (row none : List A) → row ≡ get_or rows k [] → set (set rows k none) k row ≡ rows
taken_out rows k row none is = set_twice rows k none row ∙ ap (set rows k) is ∙ set-get_or rows k []
  where
    set_twice : {B : Type 0} (xs : List B) (i : ℕ) (a b : B) → set (set xs i a) i b ≡ set xs i b
    set_twice [] i a b = refl
    set_twice (x ∷ xs) zero a b = refl
    set_twice (x ∷ xs) (suc i) a b = ap (λ l. x ∷ l) (set_twice xs i a b)

module _ {A : Type 0} (rows : List (List A)) (row : List A) (v i w j : ℕ) (x y : A) (low : 1 ≤ v) (less : v < w) (in_rows : w - 1 < length rows)
    (in_row : i < length row) (there : j < length (row_at rows w)) (x_is : x ≡ get_or row i x) (y_is : y ≡ get_or (row_at rows w) j y) where
  abbrev old : List (List A)
  old = set rows (v - 1) row

  abbrev between : List (List A)
  between = set rows (w - 1) (set (row_at rows w) j x)

  abbrev new : List (List A)
  new = set between (v - 1) (set row i y)

  old_here : row_at old v ≡ row
  old_here = get_or-set_same rows (v - 1) row [] (omega (arith, low, less, in_rows))

  new_here : row_at new v ≡ set row i y
  new_here = get_or-set_same between (v - 1) (set row i y) [] (omega (arith, low, less, in_rows, length-set rows (w - 1) (set (row_at rows w) j x)))

  old_there : row_at old w ≡ row_at rows w
  old_there = get_or-set_other rows (v - 1) (w - 1) row [] (λ e. absurd (omega (arith, e, low, less)))

  new_there : row_at new w ≡ set (row_at rows w) j x
  new_there = get_or-set_other between (v - 1) (w - 1) (set row i y) [] (λ e. absurd (omega (arith, e, low, less)))
      ∙ get_or-set_same rows (w - 1) (set (row_at rows w) j x) [] in_rows

  elsewhere : (u : ℕ) → u - 1 ≢ v - 1 → u - 1 ≢ w - 1 → row_at new u ≡ row_at old u
  elsewhere u not_v not_w = get_or-set_other between (v - 1) (u - 1) (set row i y) [] not_v
      ∙ get_or-set_other rows (w - 1) (u - 1) (set (row_at rows w) j x) [] not_w
      ∙ sym (get_or-set_other rows (v - 1) (u - 1) row [] not_v)

  pub swapped : IsSwapped old v i w j new
  swapped = record {
    count = length-set between (v - 1) (set row i y) ∙ length-set rows (w - 1) (set (row_at rows w) j x) ∙ sym (length-set rows (v - 1) row);
    long = λ u. ⊎_elim
        (λ e. ap (λ k. length (get_or new k [])) e ∙ ap length new_here ∙ length-set row i y ∙ sym (ap length old_here)
        ∙ ap (λ k. length (get_or old k [])) (sym e))
        (λ not_v. ⊎_elim
        (λ e. ap (λ k. length (get_or new k [])) e ∙ ap length new_there ∙ length-set (row_at rows w) j x ∙ sym (ap length old_there)
        ∙ ap (λ k. length (get_or old k [])) (sym e))
        (λ not_w. ap length (elsewhere u not_v not_w))
        (cases_eq (u - 1) (w - 1)))
        (cases_eq (u - 1) (v - 1));
    here = ap (λ l. slice_get l i) new_here ∙ get_same row i y in_row
        ∙ sym (ap (λ l. slice_get l j) old_there ∙ slice_get_read (row_at rows w) (length (row_at rows w)) j y refl there y_is);
    there = ap (λ l. slice_get l j) new_there ∙ get_same (row_at rows w) j x there
        ∙ sym (ap (λ l. slice_get l i) old_here ∙ slice_get_read row (length row) i x refl in_row x_is);
    others = λ u k at apart apart'. ⊎_elim
        (λ e. ap (λ z. thing_at new z k) e ∙ ap (λ l. slice_get l k) new_here ∙ get_other row i k y (apart e)
        ∙ sym (ap (λ l. slice_get l k) old_here) ∙ ap (λ z. thing_at old z k) (sym e))
        (λ not_v. ⊎_elim
        (λ e. ap (λ z. thing_at new z k) e ∙ ap (λ l. slice_get l k) new_there ∙ get_other (row_at rows w) j k x (apart' e)
        ∙ sym (ap (λ l. slice_get l k) old_there) ∙ ap (λ z. thing_at old z k) (sym e))
        (λ not_w. ap (λ l. slice_get l k) (elsewhere u (λ e. absurd (not_v (omega (arith, e, at, low))))
        (λ e. absurd (not_w (omega (arith, e, at, low, less))))))
        (cases_eq u w))
        (cases_eq u v);
  }
