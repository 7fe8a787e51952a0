-- One of 0, 1, 2 is other than any two numbers, and which one the least is.
use Rattle.std.proofs.Common.{◌≡◌, ◌≢◌, ℕ, zero, suc, ◌<◌, ◌≤◌, ◌==◌, true, false, arith}
use Rattle.std.specs.Prelude.{Option, Some, None, not, if◌then◌else◌}
use Rattle.std.proofs.lemmas.Bool.Decides.{nat_tests}
use Rattle.colour_base.proofs.LeastLemmas.{least-found, least-at_most}
use Rattle.colour_base.proofs.TestLemmas.{test-apart, apart-test}
use Rattle.shift_down.specs.Steps.{other, other_of_two, free_by}

-- one of 0, 1, 2 is neither of two numbers
spare : (a b : ℕ) → (c : ℕ) × (c < 3) × (c ≢ a) × (c ≢ b)
spare zero zero = (1, omega arith, (λ e. omega arith), λ e. omega arith)
spare zero (suc zero) = (2, omega arith, (λ e. omega arith), λ e. omega arith)
spare zero (suc (suc b)) = (1, omega arith, (λ e. omega arith), λ e. omega arith)
spare (suc zero) zero = (2, omega arith, (λ e. omega arith), λ e. omega arith)
spare (suc zero) (suc b) = (0, omega arith, (λ e. omega arith), λ e. omega arith)
spare (suc (suc a)) zero = (1, omega arith, (λ e. omega arith), λ e. omega arith)
spare (suc (suc a)) (suc b) = (0, omega arith, (λ e. omega arith), λ e. omega arith)

neither : (a b c : ℕ) → (if c == a then false else not (c == b)) ≡ true → (c ≢ a) × (c ≢ b)
neither a b c h = ((λ e. grind (arith, nat_tests)), λ e. grind (arith, nat_tests))

to_neither : (a b c : ℕ) → c ≢ a → c ≢ b → (if c == a then false else not (c == b)) ≡ true
to_neither a b c h k = grind (arith, nat_tests)

pub other_of_two-is : (a b : ℕ) → (other_of_two a b ≤ 2) × (other_of_two a b ≢ a) × (other_of_two a b ≢ b)
unfolding other_of_two
other_of_two-is a b =
    let free : (c : ℕ) × (c < 3) × (c ≢ a) × (c ≢ b) = spare a b in
    let test : (if free.0 == a then false else not (free.0 == b)) ≡ true = to_neither a b free.0 free.2 free.3 in
    let most : other_of_two a b ≤ free.0 = least-at_most (λ c. if c == a then false else not (c == b)) 3 free.0 test in
    let found : (other_of_two a b ≢ a) × (other_of_two a b ≢ b) =
    neither a b (other_of_two a b) (least-found (λ c. if c == a then false else not (c == b)) 3 free.0 free.1 test) in
    (omega (arith, free.1), found.0, found.1)

pub other-is : (a : ℕ) → (other a ≤ 2) × (other a ≢ a)
unfolding other
other-is a =
    let free : (c : ℕ) × (c < 3) × (c ≢ a) × (c ≢ a) = spare a a in
    let most : other a ≤ free.0 = least-at_most (λ c. not (c == a)) 3 free.0 (apart-test free.0 a free.2) in
    (omega (arith, free.1), test-apart (other a) a (least-found (λ c. not (c == a)) 3 free.0 free.1 (apart-test free.0 a free.2)))

pub free-is : (before : ℕ) (parent : Option ℕ) → (free_by before parent ≤ 2) × (free_by before parent ≢ before)
free-is before None = other-is before
free-is before (Some b) = let is = other_of_two-is before b in (is.0, is.1)
