-- What a turn that ended early says of why.
use Rattle.std.proofs.Common.{◌≡◌, ℕ, ◌+◌, ◌<◌, ◌≤◌, ◌^◌, List, [], ◌∷◌, length, sym, ap, ◌∙◌, arith, None, Some, Ok, Err, slice_get}
use Rattle.std.specs.Prelude.{Option, Result, IfErr, IsErrAnd, max}
use Rattle.wired_nodes.specs.declared.aside.Aside.{Aside}
use Rattle.wired_nodes.specs.declared.refused.TurnRefused.{TurnRefused}
use Rattle.wired_nodes.specs.declared.refused.TurnRefused.TheVariants.{Memory, StampFull}
use Rattle.wired_nodes.specs.HasStamps.{aside_stamp}
use Rattle.wired_nodes.specs.Remembered.{RemembersFull}

pub memory-isnt_full : Memory ≡ StampFull → ⊥
memory-isnt_full e = cc

pub full-isnt_memory : StampFull ≡ Memory → ⊥
full-isnt_memory e = cc

-- a refusal that is handed on
pub same_refusal : {T : Type 0} (P : Type 0) (r : Result T TurnRefused) (e why : TurnRefused) → IsErrAnd r (λ error. error ≡ e) → (e ≡ why → P)
    → IfErr r (λ error. error ≡ why → P)
same_refusal P (Ok x) e why is says = tt
same_refusal P (Err error) e why is says = λ at. says (sym is ∙ at)

-- a stamp past the counter is past the greater one of two
pub past_greater : (n a b : ℕ) → n ≤ a + 1 → n ≤ max a b + 1
past_greater n a b le = omega (arith, le)

pub next_above : (s n : ℕ) → s ≡ n + 1 → n < s
next_above s n is = omega (arith, is)

pub past_above : (s n m : ℕ) → s ≡ max n m + 1 → n < s
past_above s n m is = omega (arith, is)

-- a list with a first thing has one
pub first_there : {A : Type 0} (xs : List A) (x : A) → slice_get xs 0 ≡ Some x → 0 < length xs
first_there [] x is = absurd cc
first_there (y ∷ ys) x is = omega arith

-- a node that has set no wire aside and remembers a stamp that would be too great has come to the greatest by its counter
pub full_counter : {M : Type 0} {refusal : Option TurnRefused} (counter : ℕ) (aside : Option (Aside M)) → RemembersFull refusal counter aside
    → aside ≡ None → refusal ≡ Some StampFull → 2 ^ 64 ≤ counter + 1
full_counter counter aside remembers none is =
    let full = remembers is in
    let zero : aside_stamp aside ≡ 0 = ap (λ o. aside_stamp o) none in
    omega (arith, full, zero)
