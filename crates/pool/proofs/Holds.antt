-- What is so of all, at one place; and what fresh passes pushed and took.
use Rattle.std.proofs.Common.{◌≡◌, ℕ, ◌<◌, ◌≤◌, List, [], ◌∷◌, ◌++◌, map, length, get_or, take, suc, refl, sym, ap, ◌∙◌, subst, arith}
use Rattle.std.specs.Prelude.{All}
use Rattle.std.proofs.lemmas.List.{length-map, length-append, map-append}
use Rattle.deque_rule.specs.declared.ledger.Ledger.{Ledger}
use Rattle.deque_rule.specs.Ledgers.{AreDealt, AreOut, AreSame, ledger, weigh, pushed_by, taken_by}
use Rattle.pool.proofs.Views.{carried, last_front, total_same, total_zero}

pub holds_at : {X : Type 0} (P : X → Type 0) (xs : List X) (i : ℕ) (x : X) → i < length xs → x ≡ get_or xs i x → All P xs → P x
holds_at P xs i x lt at all = subst P (sym at) (all i x lt)

pub fresh_sums : {A : Type 0} (see : A → Ledger) (p : ℕ) (xs : List A) → All (λ x. see x ≡ ledger p [] []) xs → (h : ℕ → ℕ)
    → (taken_by h (map see xs) ≡ 0) × (pushed_by h (map see xs) ≡ 0)
fresh_sums see p xs all h = (
  total_zero (λ v. weigh h v.taken) see xs (λ k d lt. ap (λ (v : Ledger). weigh h v.taken) (all k d lt)),
  total_zero (λ v. weigh h v.pushed) see xs (λ k d lt. ap (λ (v : Ledger). weigh h v.pushed) (all k d lt)),
)

-- the last of things whose images begin a list
pub popped_front : {G C : Type 0} (f : G → C) (row rest : List G) (x : G) (ids : List C) (d : C) → row ≡ rest ++ x ∷ []
    → map f row ≡ take (length row) ids → length row ≤ length ids
    → (length row ≡ suc (length rest)) × ((f x ≡ get_or ids (length rest) d) × (map f rest ≡ take (length rest) ids))
popped_front f row rest x ids d e front few =
    let n : length row ≡ suc (length rest) = ap length e ∙ length-append rest (x ∷ []) ∙ (omega arith) in
    let m : length (map f rest) ≡ length rest = length-map rest f in
    let k : length row ≡ suc (length (map f rest)) = omega arith in
    let t : map f rest ++ f x ∷ [] ≡ take (suc (length (map f rest))) ids =
    sym (map-append f rest (x ∷ [])) ∙ ap (map f) (sym e) ∙ front ∙ ap (λ z. take z ids) k in
    let r = last_front (map f rest) ids (f x) d t (omega arith) in
    (n, (r.0 ∙ ap (λ z. get_or ids z d) m, r.1 ∙ ap (λ z. take z ids) m))

pub length_more : {X : Type 0} (xs rest : List X) (x : X) → xs ≡ rest ++ x ∷ [] → length xs ≡ suc (length rest)
length_more xs rest x e = ap length e ∙ length-append rest (x ∷ []) ∙ (omega arith)

-- what all passes know after the same step of each, or of passes that are cut off of each
pub all_to : {A B : Type 0} (see : A → Ledger) (see' : B → Ledger) (m : Ledger → Ledger) (xs : List A) (ys : List B) (v w : Ledger)
    → map see' ys ≡ map (λ x. m (see x)) xs → m v ≡ w → All (λ x. see x ≡ v) xs → All (λ y. see' y ≡ w) ys
all_to see see' m xs ys v w e to all = carried (λ x. m (see x)) see' (λ u. u ≡ w) xs ys e (λ k d lt. ap m (all k d lt) ∙ to)

-- fresh passes have nothing out
pub fresh_out : {A : Type 0} (see : A → Ledger) (p : ℕ) (xs : List A) → All (λ x. see x ≡ ledger p [] []) xs → AreOut (map see xs) []
fresh_out see p xs all h =
    let z = fresh_sums see p xs all h in
    let t = z.0 in
    let q = z.1 in
    omega arith

-- what was dealt goes with the passes that are cut off
pub dealt_on : {A B : Type 0} (see : A → Ledger) (see' : B → Ledger) (xs : List A) (ys : List B) (tasks all : List ℕ)
    → map see' ys ≡ map (λ x. ledger 1 (see x).pushed (see x).taken) xs → AreSame tasks all → AreDealt (map see xs) tasks → AreDealt (map see' ys) all
dealt_on see see' xs ys tasks all e same dealt h =
    let d = dealt h in
    let none = d.0 in
    let these = d.1 in
    let t = ap (taken_by h) e ∙ total_same (λ v. weigh h v.taken) (λ v. ledger 1 v.pushed v.taken) see (λ v. refl) xs in
    let p = ap (pushed_by h) e ∙ total_same (λ v. weigh h v.pushed) (λ v. ledger 1 v.pushed v.taken) see (λ v. refl) xs in
    let w = same h in
    (omega arith, omega arith)
