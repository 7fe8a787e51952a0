-- Lists of deques' views: what is so of one list is so of another, and what all of them pushed and took.
use Rattle.std.proofs.Common.{◌≡◌, ℕ, zero, suc, ◌+◌, ◌<◌, List, [], ◌∷◌, ◌++◌, length, map, set, get_or, take, refl, sym, ap, ◌∙◌, subst, arith}
use Rattle.std.specs.Prelude.{All}
use Rattle.std.proofs.lemmas.List.{length-map, get_or-map, map-set}
use Rattle.std.proofs.lemmas.List.Elements.{All-map, All-head, All-tail}
use Rattle.crossbeam_deque.proofs.Lists.{at_index}
use Rattle.deque_rule.specs.declared.ledger.Ledger.{Ledger}
use Rattle.deque_rule.specs.Ledgers.{total}
use Rattle.deque_rule.proofs.Rule.{total-set}

-- what is so of the images of a list is so of the list, and the other way round
pub unmapped : {A C : Type 0} (g : A → C) (Q : C → Type 0) (ys : List A) → All Q (map g ys) → All (λ y. Q (g y)) ys
unmapped g Q ys all k d lt = subst Q (get_or-map g ys k d (g d) lt) (all k (g d) (omega (arith, length-map ys g)))

pub carried : {A B C : Type 0} (f : A → C) (g : B → C) (Q : C → Type 0) (xs : List A) (ys : List B) → map g ys ≡ map f xs
    → All (λ x. Q (f x)) xs → All (λ y. Q (g y)) ys
carried f g Q xs ys e all = unmapped g Q ys (subst (All Q) (sym e) (All-map Q f xs all))

-- as many
pub as_many : {A B C : Type 0} (f : A → C) (g : B → C) (xs : List A) (ys : List B) → map g ys ≡ map f xs → length ys ≡ length xs
as_many f g xs ys e = sym (length-map ys g) ∙ ap length e ∙ length-map xs f

-- the sum is that of the images, if f says the same of each
pub total_same : {A : Type 0} (f : Ledger → ℕ) (m : Ledger → Ledger) (see : A → Ledger) → ((v : Ledger) → f (m v) ≡ f v) → (xs : List A)
    → total f (map (λ x. m (see x)) xs) ≡ total f (map see xs)
total_same f m see same [] = refl
total_same f m see same (x ∷ xs) = let s = same (see x) in let r = total_same f m see same xs in omega arith

pub total_zero : {A : Type 0} (f : Ledger → ℕ) (see : A → Ledger) (xs : List A) → All (λ x. f (see x) ≡ 0) xs → total f (map see xs) ≡ 0
total_zero f see [] all = refl
total_zero f see (x ∷ xs) all =
    let z = All-head (λ x. f (see x) ≡ 0) x xs all in
    let r = total_zero f see xs (All-tail (λ x. f (see x) ≡ 0) x xs all) in
    omega arith

-- the sum after a change of one
pub total_change : {A : Type 0} (f : Ledger → ℕ) (see : A → Ledger) (xs : List A) (i : ℕ) (x y : A) → i < length xs → x ≡ get_or xs i x
    → total f (map see (set xs i y)) + f (see x) ≡ total f (map see xs) + f (see y)
total_change f see xs i x y lt at =
    let there : see x ≡ get_or (map see xs) i (see x) = ap see at ∙ sym (get_or-map see xs i x (see x) lt) in
    let here = at_index (map see xs) i (see x) (omega (arith, length-map xs see)) there in
    let s = total-set f (map see xs) i (see x) (see y) here in
    let e = ap (total f) (map-set see xs i y) in
    omega arith

-- a list with one change has the same images, if the change has
pub map_change : {A C : Type 0} (g : A → C) (xs : List A) (i : ℕ) (x y : A) → i < length xs → x ≡ get_or xs i x → g y ≡ g x
    → map g (set xs i y) ≡ map g xs
map_change g [] i x y lt at e = absurd (omega arith)
map_change g (z ∷ zs) zero x y lt at e = ap (λ c. c ∷ map g zs) (e ∙ ap g at)
map_change g (z ∷ zs) (suc i) x y lt at e = ap (λ l. g z ∷ l) (map_change g zs i x y (omega arith) at e)

-- the last of a list that begins another
abbrev tail_of : {C : Type 0} → List C → List C
tail_of [] = []
tail_of (w ∷ ws) = ws

pub last_front : {C : Type 0} (xs ids : List C) (x d : C) → xs ++ x ∷ [] ≡ take (suc (length xs)) ids → length xs < length ids
    → (x ≡ get_or ids (length xs) d) × (xs ≡ take (length xs) ids)
last_front [] [] x d e lt = absurd (omega arith)
last_front [] (y ∷ ys) x d e lt = (ap (λ l. get_or l 0 d) e, refl)
last_front (z ∷ zs) [] x d e lt = absurd (omega arith)
last_front (z ∷ zs) (y ∷ ys) x d e lt =
    let r = last_front zs ys x d (ap tail_of e) (omega arith) in
    let h : z ≡ y = ap (λ l. get_or l 0 d) e in
    (r.0, λ k. h k ∷ r.1 k)

-- two lists with the same images have the same image at a place
pub same_at : {A B C : Type 0} (f : A → C) (g : B → C) (xs : List A) (ys : List B) (i : ℕ) (x : A) (y : B) → map f xs ≡ map g ys → i < length ys
    → x ≡ get_or xs i x → y ≡ get_or ys i y → f x ≡ g y
same_at f g xs ys i x y e lt at at' =
    let many = as_many g f ys xs e in
    ap f at ∙ sym (get_or-map f xs i x (f x) (omega (arith, many))) ∙ ap (λ l. get_or l i (f x)) e ∙ get_or-map g ys i y (f x) lt ∙ ap g (sym at')
