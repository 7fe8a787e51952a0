-- A loop that folds a list, after one element more.
use Rattle.std.proofs.Common.{◌≡◌, ◌∙◌, ◌+◌, ◌<◌, ℕ, List, ap, fold, get_or, length, sym, take}
use Rattle.std.proofs.lemmas.List.Sums.{fold_more}

pub fold_one : {X Y : Type 0} (f : Y → X → Y) (a : Y) (xs : List X) (i : ℕ) (d : X) → i < length xs → (before after : Y)
    → before ≡ fold f a (take i xs) → after ≡ f before (get_or xs i d) → after ≡ fold f a (take (i + 1) xs)
fold_one f a xs i d lt before after so_far is = is ∙ ap (λ b. f b (get_or xs i d)) so_far ∙ sym (fold_more f a xs i d lt)
