-- What is left to say where ends are put side by side.
use Rattle.std.proofs.Common.{◌≡◌, ℕ, List, length, map, true, sym, ◌∙◌}
use Rattle.std.specs.Prelude.{Result, Ok, Err, IfOk, is_err}
use Rattle.pool.proofs.Views.{as_many}

-- an error says nothing of a good answer
pub err_says : {A B : Type 0} (P : A → Type 0) (r : Result A B) → is_err r ≡ true → IfOk r P
err_says P (Ok x) e = absurd cc
err_says P (Err x) e = tt

-- lists of which the same is said are as long
pub as_long : {A B C : Type 0} (f : A → C) (g : B → C) (xs : List A) (ys : List B) (m n : ℕ) → m ≡ length xs → n ≡ length ys
    → map g ys ≡ map f xs → n ≡ m
as_long f g xs ys m n xs_long ys_long same = ys_long ∙ as_many f g xs ys same ∙ sym xs_long
