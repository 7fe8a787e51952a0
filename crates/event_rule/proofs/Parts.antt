-- Lists of which one entry changes, or from which one entry more is taken.
use Rattle.std.proofs.Common.{◌≡◌, ℕ, suc, zero, ◌+◌, ◌-◌, ◌<◌, ◌≤◌, List, [], ◌∷◌, ◌++◌, take, drop, length, get_or, set, map, Some, None, Result, Ok, Err}
use Rattle.std.proofs.Common.{refl, sym, ap, ◌∙◌, arith, Fits, w32, w64}
use Rattle.std.specs.Prelude.{IfErr, OnErr, slice_get}
use Rattle.std.specs.List.{range_with_len}
use Rattle.std.proofs.lemmas.List.{map-append}
use Rattle.interference.proofs.Members.{range-more}

-- an entry that is written where it stands leaves the list
pub set-same : {X : Type 0} (xs : List X) (i : ℕ) (x : X) → i < length xs → x ≡ get_or xs i x → set xs i x ≡ xs
set-same [] i x lt is = absurd (omega arith)
set-same (y ∷ xs) zero x lt is = ap (λ z. z ∷ xs) is
set-same (y ∷ xs) (suc i) x lt is = ap (λ l. y ∷ l) (set-same xs i x (omega arith) is)

-- what holds of every entry and of the new one holds of every entry afterwards
pub each-set : {X : Type 0} (P : X → Type 0) (xs : List X) (i : ℕ) (y : X) → P y
    → ((k : ℕ) (d : X) → k < length xs → P (get_or xs k d)) → (k : ℕ) (d : X) → k < length (set xs i y) → P (get_or (set xs i y) k d)
each-set P [] i y here each k d lt = absurd (omega arith)
each-set P (x ∷ xs) zero y here each zero d lt = here
each-set P (x ∷ xs) zero y here each (suc k) d lt = each (suc k) d (omega arith)
each-set P (x ∷ xs) (suc i) y here each zero d lt = each 0 d (omega arith)
each-set P (x ∷ xs) (suc i) y here each (suc k) d lt = each-set P xs i y here (λ j e l. each (suc j) e (omega arith)) k d (omega arith)

take-suc : {X : Type 0} (xs : List X) (n : ℕ) → 0 < length (drop n xs)
    → (take (suc n) xs ≡ take n xs ++ take 1 (drop n xs)) × (drop (suc n) xs ≡ drop 1 (drop n xs))
take-suc [] zero lt = absurd (omega arith)
take-suc [] (suc n) lt = absurd (omega arith)
take-suc (x ∷ xs) zero lt = (refl, refl)
take-suc (x ∷ xs) (suc n) lt = let rest = take-suc xs n lt in (ap (λ l. x ∷ l) rest.0, rest.1)

-- one entry more is taken
pub take-next : {X : Type 0} (xs : List X) (n : ℕ) → 0 < length (drop n xs)
    → (take (n + 1) xs ≡ take n xs ++ take 1 (drop n xs)) × (drop (n + 1) xs ≡ drop 1 (drop n xs))
take-next xs n lt =
    let e : n + 1 ≡ suc n = omega arith in
    (ap (λ k. take k xs) e ∙ (take-suc xs n lt).0, ap (λ k. drop k xs) e ∙ (take-suc xs n lt).1)

-- a list at one of its entries
pub take-split : {X : Type 0} (xs : List X) (i : ℕ) (x : X) → i < length xs → x ≡ get_or xs i x
    → (take (suc i) xs ≡ take i xs ++ (x ∷ [])) × (xs ≡ take i xs ++ (x ∷ drop (suc i) xs)) × (length (take i xs) ≡ i)
take-split [] i x lt is = absurd (omega arith)
take-split (y ∷ xs) zero x lt is = (ap (λ z. z ∷ []) (sym is), ap (λ z. z ∷ xs) (sym is), refl)
take-split (y ∷ xs) (suc i) x lt is =
    let rest = take-split xs i x (omega arith) is in
    (ap (λ l. y ∷ l) rest.0, ap (λ l. y ∷ l) rest.1, ap (λ n. suc n) rest.2)

-- a list that is made over the vertices, with one vertex more
pub map-next : {X : Type 0} (f : ℕ → X) (n : ℕ) → map f (range_with_len 1 (n + 1)) ≡ map f (range_with_len 1 n) ++ (f (n + 1) ∷ [])
map-next f n =
    let more : n + 1 ≡ suc n = omega arith in
    let last : 1 + n ≡ n + 1 = omega arith in
    ap (λ k. map f (range_with_len 1 k)) more ∙ ap (λ l. map f l) (range-more 1 n) ∙ map-append f (range_with_len 1 n) ((1 + n) ∷ [])
    ∙ ap (λ k. map f (range_with_len 1 n) ++ (f k ∷ [])) last

-- what holds anyhow holds if there is an error
pub on_err : {T E P : Type 0} (r : Result T E) → P → OnErr r P
on_err (Ok x) p = tt
on_err (Err e) p = p

pub if_err : {T E P : Type 0} (r : Result T E) (e : E) → P → IfErr r (λ refused. refused ≡ e → P)
if_err (Ok x) e p = tt
if_err (Err x) e p = λ _. p

-- the first entry of a list, and there is none
pub first-some : {X : Type 0} (xs : List X) (x : X) → slice_get xs 0 ≡ Some x → (rest : List X) × (xs ≡ x ∷ rest)
first-some [] x e = absurd cc
first-some (y ∷ xs) x e = let same : y ≡ x = cc in (xs, ap (λ z. z ∷ xs) same)

pub first-none : {X : Type 0} (xs : List X) → slice_get xs 0 ≡ None → xs ≡ []
first-none [] e = refl
first-none (y ∷ xs) e = absurd cc

-- a list with a first entry isn't empty
pub some-first : {X : Type 0} (xs rest : List X) (x : X) → xs ≡ x ∷ rest → 0 < length xs
some-first xs rest x e = omega (arith, ap length e)

-- the index of a vertex is a `usize`
pub fits_index : (v : ℕ) → Fits w32 v → Fits w64 (v - 1)
fits_index v fits = omega arith

-- a count that has come to its end
pub counted : (i n : ℕ) → i ≤ n → n ≤ i → i ≡ n
counted i n most least = omega arith
