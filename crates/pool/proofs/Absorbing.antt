-- OneShare come back one deque after another, from the last.
use Rattle.std.proofs.Common.{◌≡◌, ◌≢◌, ℕ, suc, ◌+◌, ◌<◌, ◌≤◌, List, [], ◌∷◌, length, map, set, get_or, sym, ap, subst, ◌∙◌, arith, ⊎_elim}
use Rattle.std.specs.Prelude.{All}
use Rattle.std.proofs.lemmas.List.{get_or-map, get_or-set_same, get_or-set_other, length-map, length-set, map-set}
use Rattle.std.proofs.lemmas.Bool.Decides.{eqb_tells}
use Rattle.deque_rule.specs.declared.ledger.Ledger.{Ledger}
use Rattle.deque_rule.specs.Ledgers.{ledger}

abbrev nobody : Ledger
nobody = ledger 0 [] []

-- the deques before this place have so many shares, the others one more
abbrev pub IsUpTo : ℕ → ℕ → List Ledger → Type 0
IsUpTo p i views = (j : ℕ) → j < length views → (j < i → (get_or views j nobody).shares ≡ p) × (i ≤ j → (get_or views j nobody).shares ≡ p + 1)

pub up_to_set : (p i : ℕ) (views : List Ledger) (v w : Ledger) → i < length views → v ≡ get_or views i v → w.shares ≡ v.shares + 1
    → ((d : Ledger) → v ≡ get_or views i d) → IsUpTo p (suc i) views → IsUpTo p i (set views i w)
up_to_set p i views v w within at more there up j lt =
    ⊎_elim
    (λ (s : _ × (j ≡ i)).
    let here : get_or (set views i w) j nobody ≡ w = ap (λ k. get_or (set views i w) k nobody) s.1 ∙ get_or-set_same views i w nobody within in
    let h = ap (λ (u : Ledger). u.shares) here in
    let o = ap (λ (u : Ledger). u.shares) (there nobody) in
    let was = (up i within).0 (omega arith) in
    let q = s.1 in
    ((λ less. absurd (omega arith)), λ more'. omega arith))
    (λ (o : _ × (j ≢ i)).
    let h = ap (λ (u : Ledger). u.shares) (get_or-set_other views i j w nobody o.1) in
    let n = up j (omega (arith, length-set views i w)) in
    ((λ less. let a = n.0 (omega arith) in omega arith), λ more'. let a = n.1 (apart i j o.1 more') in omega arith))
    (eqb_tells j i)
  where
    apart : (i j : ℕ) → j ≢ i → i ≤ j → suc i ≤ j
    apart i j ne le = omega arith

-- before the first and after the last
pub up_to_all : {A : Type 0} (p n : ℕ) (see : A → Ledger) (xs : List A) → n ≡ length xs → All (λ x. (see x).shares ≡ p) xs → IsUpTo p n (map see xs)
up_to_all p n see xs long all j lt =
    let l : j < length xs = omega (arith, length-map xs see) in
    ((λ less. ap (λ (v : Ledger). v.shares) (get_or-map see xs j (default_of xs j l) nobody l) ∙ all j (default_of xs j l) l), λ more. absurd (omega arith))
  where
    default_of : {X : Type 0} (ys : List X) (i : ℕ) → i < length ys → X
    default_of [] i h = absurd (omega arith)
    default_of (y ∷ ys) i h = y

pub all_up_to : {A : Type 0} (p : ℕ) (see : A → Ledger) (xs : List A) → IsUpTo p 0 (map see xs) → All (λ x. (see x).shares ≡ p + 1) xs
all_up_to p see xs up k d lt =
    ap (λ (v : Ledger). v.shares) (sym (get_or-map see xs k d nobody lt)) ∙ (up k (omega (arith, length-map xs see))).1 (omega arith)

pub set_up_to : {A : Type 0} (p i : ℕ) (see : A → Ledger) (xs : List A) (x y : A) → i < length xs → x ≡ get_or xs i x → (see y).shares ≡ (see x).shares + 1
    → IsUpTo p (suc i) (map see xs) → IsUpTo p i (map see (set xs i y))
set_up_to p i see xs x y lt at more up =
    subst (IsUpTo p i) (sym (map-set see xs i y))
    (up_to_set p i (map see xs) (see x) (see y) (omega (arith, length-map xs see)) (ap see at ∙ sym (get_or-map see xs i x (see x) lt)) more
    (λ d. ap see at ∙ sym (get_or-map see xs i x d lt)) up)
