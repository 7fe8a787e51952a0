-- The numbers from 1 on, and one more of them.
use Rattle.std.proofs.Common.{◌≡◌, ◌∙◌, ◌+◌, ℕ, [], ◌∷◌, ◌++◌, ap, arith, add-one}
use Rattle.std.specs.List.{range_with_len}
use Rattle.interference.proofs.Members.{range-more}

pub one_more : (n : ℕ) → range_with_len 1 (n + 1) ≡ range_with_len 1 n ++ (n + 1) ∷ []
one_more n =
    let same : 1 + n ≡ n + 1 = omega arith in
    ap (range_with_len 1) (add-one n) ∙ range-more 1 n ∙ ap (λ x. range_with_len 1 n ++ x ∷ []) same
