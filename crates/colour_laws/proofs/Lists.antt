-- Walks over lists that are made of the neighbours of a node.
use Rattle.std.proofs.Common.{◌≡◌, ℕ, zero, suc, ◌+◌, ◌<◌, ◌≤◌, Bool, false, List, [], ◌∷◌, refl, arith}
use Rattle.std.specs.Prelude.{if◌then◌else◌, map, count_by}
use Rattle.std.specs.List.{range_with_len, fold, list_any}

pub range-members : {X : Type 0} (f g : ℕ → X) (a n : ℕ) → ((k : ℕ) → a ≤ k → k < a + n → f k ≡ g k) → map f (range_with_len a n) ≡ map g (range_with_len a n)
range-members f g a zero same = refl
range-members f g a (suc n) same =
    let now : f a ≡ g a = same a (omega arith) (omega arith) in
    let rest : map f (range_with_len (a + 1) n) ≡ map g (range_with_len (a + 1) n) =
    range-members f g (a + 1) n (λ k low high. same k (omega arith) (omega arith)) in
    cc

pub any-none : (test : ℕ → Bool) (f : ℕ → ℕ) (ks : List ℕ) → ((k : ℕ) → test (f k) ≡ false) → list_any test (map f ks) ≡ false
any-none test f [] none = refl
any-none test f (k ∷ ks) none = rw (none k) (any-none test f ks none)

fold-map : {A B : Type 0} (f : B → A → B) (g : ℕ → A) (b : B) (ws : List ℕ) → fold f b (map g ws) ≡ fold (λ b w. f b (g w)) b ws
fold-map f g b [] = refl
fold-map f g b (w ∷ ws) = fold-map f g (f b (g w)) ws

pub count_by-map : (p : ℕ → Bool) (g : ℕ → ℕ) (ws : List ℕ) → count_by p (map g ws) ≡ count_by (λ w. p (g w)) ws
count_by-map p g ws = fold-map (λ a x. a + (if p x then 1 else 0)) g 0 ws
