-- A row beside another, thing after thing.
use Rattle.std.proofs.Common.{◌≡◌, zero, suc, List, [], ◌∷◌, map, drop, get_or, sym, ap, ◌∙◌, subst, arith}
use Rattle.std.specs.Prelude.{All}
use Rattle.std.proofs.lemmas.List.{get_or-map, length-map}
use Rattle.std.proofs.lemmas.Simd.{map-map}

-- two rows side by side, read by one of them
pub firsts : {A E D : Type 0} (all : List (A × E)) (ls : List A) (f : A → D) → map (λ x. x.0) all ≡ ls → map (λ x. f x.0) all ≡ map f ls
firsts all ls f e = sym (map-map f (λ x. x.0) all) ∙ ap (map f) e

pub seconds : {A E D : Type 0} (all : List (A × E)) (rs : List E) (f : E → D) → map (λ x. x.1) all ≡ rs → map (λ x. f x.1) all ≡ map f rs
seconds all rs f e = sym (map-map f (λ x. x.1) all) ∙ ap (map f) e

-- two functions that are equal over a list are so at each of its things
pub same_each : {A D : Type 0} (f g : A → D) (xs : List A) → map f xs ≡ map g xs → All (λ x. f x ≡ g x) xs
same_each f g [] e k d lt = absurd (omega arith)
same_each f g (x ∷ xs) e zero d lt = ap (λ l. get_or l 0 (f x)) e
same_each f g (x ∷ xs) e (suc k) d lt = same_each f g xs (ap (λ l. drop 1 l) e) k d (omega arith)

-- what holds of what f gives of each thing
pub all_by : {A B : Type 0} (P : B → Type 0) (f : A → B) (xs : List A) → All P (map f xs) → All (λ x. P (f x)) xs
all_by P f xs h k d lt = subst P (get_or-map f xs k d (f d) lt) (h k (f d) (omega (arith, length-map xs f)))
