-- How many places are marked, as one mark is set or taken away.
use Rattle.std.proofs.Common.{◌≡◌, ℕ, zero, suc, ◌+◌, ◌<◌, ◌≤◌, Bool, true, false, List, [], ◌∷◌, length, set, cond, ap, ◌∙◌, arith, replicate}
use Rattle.std.proofs.lemmas.List.Sums.{sum_by-cons}
use Rattle.std.proofs.lemmas.List.Folds.{sum_by-replicate}
use Rattle.node_api.specs.Marks.{count_marks, is_marked}

pub count-cons : (b : Bool) (marks : List Bool) → count_marks (b ∷ marks) ≡ cond b 1 0 + count_marks marks
count-cons b marks = sum_by-cons (λ x. cond x 1 0) b marks

pub count-none : (n : ℕ) → count_marks (replicate n false) ≡ 0
count-none n = sum_by-replicate (λ x. cond x 1 0) n false ∙ omega arith

pub count-set : (marks : List Bool) (k : ℕ) (x : Bool) → k < length marks →
    count_marks (set marks k x) + cond (is_marked marks k) 1 0 ≡ count_marks marks + cond x 1 0
count-set [] k x h = absurd (omega arith)
count-set (b ∷ marks) zero x h = omega (arith, count-cons x marks, count-cons b marks)
count-set (b ∷ marks) (suc k) x h = omega (arith, count-cons b (set marks k x), count-cons b marks, count-set marks k x (omega arith))

pub count-added : (marks : List Bool) (k : ℕ) → k < length marks → is_marked marks k ≡ false → count_marks (set marks k true) ≡ count_marks marks + 1
count-added marks k h e = omega (arith, count-set marks k true h, ap {B = ℕ} (λ b. cond b 1 0) e)

pub count-some : (marks : List Bool) (k : ℕ) → is_marked marks k ≡ true → 0 < count_marks marks
count-some [] k e = absurd (let wrong : false ≡ true = e in cc)
count-some (b ∷ marks) zero e = omega (arith, count-cons b marks, ap {B = ℕ} (λ x. cond x 1 0) e)
count-some (b ∷ marks) (suc k) e = omega (arith, count-cons b marks, count-some marks k e)

-- at most as many as there are places
pub count-within : (marks : List Bool) → count_marks marks ≤ length marks
count-within [] = omega arith
count-within (true ∷ marks) = omega (arith, count-cons true marks, count-within marks)
count-within (false ∷ marks) = omega (arith, count-cons false marks, count-within marks)
