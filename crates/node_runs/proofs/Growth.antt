-- Lists and rows of lists that get longer, or shorter, at their end.
use Rattle.std.proofs.Common.{◌≡◌, ℕ, zero, suc, ◌+◌, ◌-◌, ◌<◌, ◌≤◌, List, [], ◌∷◌, ◌++◌, length, map, get_or, refl, sym, ap, ◌∙◌, subst, arith}
use Rattle.std.proofs.Common.{Some, slice_get, ◌⊎◌, inl, inr, ⊎_elim}
use Rattle.std.specs.Prelude.{All}
use Rattle.std.specs.List.{range_with_len}
use Rattle.std.proofs.lemmas.List.{length-map, length_push, map-append}
use Rattle.std.proofs.lemmas.List.Elements.{All-nil, All-push}
use Rattle.std.proofs.lemmas.Option.{slice_get-get_or}
use Rattle.port_rows.specs.Rows.{row_at}
use Rattle.port_rows.proofs.ReadLists.{at_old, at_new, range_next}

module _ {A : Type 0} (P : A → Type 0) where
  pub all_none : (new : List A) → new ≡ [] → All P new
  all_none new e = subst (λ l. All P l) (sym e) (All-nil P)

  pub all_more : (xs new : List A) (x : A) → new ≡ xs ++ x ∷ [] → All P xs → P x → All P new
  all_more xs new x e before is = subst (λ l. All P l) (sym e) (All-push P xs x before is)

module _ {A : Type 0} where
  -- a place that holds a thing is in the list
  pub below : (xs : List A) (i : ℕ) (y : A) → slice_get xs i ≡ Some y → i < length xs
  below [] i y is = absurd cc
  below (x ∷ xs) zero y is = omega arith
  below (x ∷ xs) (suc i) y is = let lt = below xs i y is in omega (arith, lt)

  -- each place of a list holds a thing
  pub there : (xs : List A) (i : ℕ) → i < length xs → (y : A) × (slice_get xs i ≡ Some y)
  there [] i lt = absurd (omega arith)
  there (x ∷ xs) zero lt = (x, refl)
  there (x ∷ xs) (suc i) lt = there xs i (omega arith)

  -- what a place holds after a push
  pub pushed : (xs : List A) (x : A) (i : ℕ) (y : A) → slice_get (xs ++ x ∷ []) i ≡ Some y → (slice_get xs i ≡ Some y) ⊎ (i ≡ length xs) × (x ≡ y)
  pushed [] x zero y is = inr (refl, cc)
  pushed [] x (suc i) y is = absurd cc
  pushed (z ∷ xs) x zero y is = inl is
  pushed (z ∷ xs) x (suc i) y is = ⊎_elim (λ old. inl old) (λ new. inr (omega (arith, new.0), new.1)) (pushed xs x i y is)

-- the thing that a loop over a list has come to
pub handed : {A : Type 0} (xs : List A) (i k : ℕ) (x : A) → i ≡ k → (k < length xs) × (x ≡ get_or xs k x) → slice_get xs i ≡ Some x
handed xs i k x at turn = ap (λ j. slice_get xs j) at ∙ slice_get-get_or xs k x turn.0 ∙ ap (λ y. Some y) (sym turn.1)

pub both : (a a' b b' : ℕ) → a ≡ a' → b ≡ b' → ◌≡◌ {A = ℕ × ℕ} (a, b) (a', b')
both a a' b b' first second = ap {B = ℕ × ℕ} (λ x. (x, b)) first ∙ ap {B = ℕ × ℕ} (λ y. (a', y)) second

-- what is read of each thing, after a push
pub read_more : {R A : Type 0} (f : R → A) (xs new : List R) (x : R) → new ≡ xs ++ x ∷ [] → map f new ≡ map f xs ++ f x ∷ []
read_more f xs new x more = ap (map f) more ∙ map-append f xs (x ∷ [])

-- a list that is given place by place, and one place more
pub place_more : {E D : Type 0} (f : E → D) (g : ℕ → D) (all new : List E) (x : E) (n : ℕ) → new ≡ all ++ x ∷ [] → f x ≡ g n
    → map f all ≡ map g (range_with_len 0 n) → map f new ≡ map g (range_with_len 0 (n + 1))
place_more f g all new x n more is so_far =
    read_more f all new x more ∙ ap (λ l. l ++ f x ∷ []) so_far
    ∙ ap (λ d. map g (range_with_len 0 n) ++ d ∷ []) is ∙ sym (range_next g n)

-- rows of which the last, that of vertex n, is taken off
module _ {R A : Type 0} (f : R → List A) (Q : ℕ → List A → Type 0) (rows left : List R) (row : R) (n m : ℕ) (next : n ≡ m + 1)
    (long : length rows ≡ n) (off : rows ≡ left ++ row ∷ []) (each : (u : ℕ) → 1 ≤ u → u ≤ n → Q u (row_at (map f rows) u)) where
  fewer : length left ≡ m
  fewer = omega (arith, ap (λ l. length l) off, length_push left row, next, long)

  left_long : length (map f left) ≡ m
  left_long = length-map left f ∙ fewer

  pub last_says : Q n (f row)
  last_says = subst (λ r. Q n r)
      (ap (λ l. row_at l n) (read_more f left rows row off) ∙ at_new (map f left) (f row) [] (n - 1) (omega (arith, next, left_long)))
      (each n (omega (arith, next)) (omega arith))

  pub rows_less : (u : ℕ) → 1 ≤ u → u ≤ m → Q u (row_at (map f left) u)
  rows_less u low le = subst (λ r. Q u r)
      (ap (λ l. row_at l u) (read_more f left rows row off) ∙ at_old (map f left) (f row ∷ []) (u - 1) [] (omega (arith, left_long, low, le)))
      (each u low (omega (arith, next)))

-- rows in which each is empty
pub none_in : {R A : Type 0} (f : R → List A) (rows : List R) (k : ℕ) → All (λ row. f row ≡ []) rows → get_or (map f rows) k [] ≡ []
none_in f [] k all = cc
none_in f (row ∷ rows) zero all = all zero row (omega arith)
none_in f (row ∷ rows) (suc k) all = none_in f rows k (λ i d lt. all (suc i) d (omega (arith, lt)))
