-- The texts of rows, one after the other, and where the numbers of a loop end.
use Rattle.std.proofs.Common.{◌≡◌, ◌∙◌, ◌≤◌, ◌<◌, ◌+◌, ℕ, suc, arith, ap, sym}
use Rattle.std.proofs.Common.{List, [], ◌∷◌, ◌++◌, append-nil, get_or, length, take}
use Rattle.std.specs.List.{flat_map}
use Rattle.std.proofs.lemmas.List.{get_or_default}
use Rattle.std.proofs.lemmas.List.Concat.{flat_map-append}
use Rattle.event_rule.proofs.Parts.{take-split}
use Rattle.number_rows.proofs.Ranges.{behind}

pub at_end : (i end n : ℕ) → i ≤ end → end ≤ i → end ≡ n → i ≡ n
at_end i end n le ge is = omega arith

-- one row more
pub rows_more : {X : Type 0} (f : X → List ℕ) (xs : List X) (i : ℕ) (d : X) → i < length xs → (front so_far next : List ℕ)
    → so_far ≡ front ++ flat_map f (take i xs) → next ≡ so_far ++ f (get_or xs i d) → next ≡ front ++ flat_map f (take (i + 1) xs)
rows_more f xs i d lt front so_far next e is =
    let x = get_or xs i d in
    let more : i + 1 ≡ suc i = omega arith in
    let split = take-split xs i x lt (get_or_default xs i d x lt) in
    behind front (flat_map f (take i xs)) (f x) so_far next e is
    ∙ ap (λ l. front ++ l) (sym (ap (λ n. flat_map f (take n xs)) more ∙ ap (λ l. flat_map f l) split.0
    ∙ flat_map-append f (take i xs) (x ∷ []) ∙ ap (λ l. flat_map f (take i xs) ++ l) (append-nil (f x))))
