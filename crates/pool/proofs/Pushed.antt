-- Lists that grow side by side.
use Rattle.std.proofs.Common.{◌≡◌, ℕ, List, [], ◌∷◌, ◌++◌, map, ap, sym, ◌∙◌, ◌+◌, arith}
use Rattle.std.proofs.lemmas.List.{map-append}
use Rattle.deque_rule.specs.declared.ledger.Ledger.{Ledger}
use Rattle.deque_rule.specs.Ledgers.{ledger, in_rows, total, weigh}
use Rattle.deque_rule.proofs.Rule.{map_snoc, total_snoc, weigh-append}

-- two lists with the same images still have them after a push of two things with the same image
pub both_pushed : {A B C : Type 0} (f : A → C) (g : B → C) (xs new : List A) (ys new' : List B) (x : A) (y : B) → new ≡ xs ++ x ∷ [] → new' ≡ ys ++ y ∷ []
    → f x ≡ g y → map f xs ≡ map g ys → map f new ≡ map g new'
both_pushed f g xs new ys new' x y e e' same all =
    ap (map f) e ∙ map-append f xs (x ∷ []) ∙ ap (λ l. l ++ f x ∷ []) all ∙ ap (λ c. map g ys ++ c ∷ []) same
    ∙ sym (map-append g ys (y ∷ [])) ∙ ap (map g) (sym e')

-- a task that was taken is one more of those that are kept
pub popped_more : {A : Type 0} (f : A → ℕ) (v w : Ledger) (shares : ℕ) (pushed : List ℕ) (x : A) (old new : List A)
    → w ≡ ledger shares pushed (v.taken ++ map f (x ∷ [])) → new ≡ old ++ x ∷ []
    → (h : ℕ → ℕ) → weigh h w.taken + weigh h (map f old) ≡ weigh h v.taken + weigh h (map f new)
popped_more f v w shares pushed x old new is e h =
    let t = ap (λ (u : Ledger). weigh h u.taken) is in
    let a = weigh-append h v.taken (f x ∷ []) in
    let m = ap (λ l. weigh h (map f l)) e ∙ ap (weigh h) (map_snoc f old x) ∙ weigh-append h (map f old) (f x ∷ []) in
    omega arith

-- the sum over a list with one more
pub total_more : {A : Type 0} (f : Ledger → ℕ) (see : A → Ledger) (xs : List A) (x : A) → total f (map see (xs ++ x ∷ [])) ≡ total f (map see xs) + f (see x)
total_more f see xs x = ap (total f) (map-append see xs (x ∷ [])) ∙ total_snoc f (map see xs) (see x)

-- the sums of rows, with one row more
pub in_rows_more : {A : Type 0} (f : List Ledger → ℕ) (see : A → List Ledger) (xs : List A) (x : A)
    → in_rows f (map see (xs ++ x ∷ [])) ≡ in_rows f (map see xs) + f (see x)
in_rows_more f see [] x = omega arith
in_rows_more f see (y ∷ ys) x = let r = in_rows_more f see ys x in omega arith

-- the images of a list with one more
pub image_pushed : {A C : Type 0} (f : A → C) (xs new : List A) (ys : List C) (x : A) (y : C) → new ≡ xs ++ x ∷ [] → f x ≡ y → map f xs ≡ ys
    → map f new ≡ ys ++ y ∷ []
image_pushed f xs new ys x y e same all = ap (map f) e ∙ map-append f xs (x ∷ []) ∙ ap (λ l. l ++ f x ∷ []) all ∙ ap (λ c. ys ++ c ∷ []) same
