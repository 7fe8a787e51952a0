-- What the least number with a test is.
use Rattle.std.proofs.Common.{◌≡◌, ℕ, zero, suc, ◌+◌, ◌<◌, ◌≤◌, Bool, true, false, refl, sym, arith}
use Rattle.std.specs.Prelude.{if◌then◌else◌}
use native.Mathlib.Decide.{dec_lt}
use Prim.{yes, no}
use Rattle.colour_base.specs.Least.{least_from, least}

pub least_from-within : (test : ℕ → Bool) (k n : ℕ) → least_from test k n ≤ k + n
least_from-within test k zero = omega arith
least_from-within test k (suc n) = let more : least_from test (suc k) n ≤ suc k + n = least_from-within test (suc k) n in grind arith

by_test : (b : Bool) (x y bound : ℕ) (P : ℕ → Type 0) → (b ≡ true → x < bound → P x) → (b ≡ false → y < bound → P y) → (if b then x else y) < bound →
    P (if b then x else y)
by_test true x y bound P yes_case no_case h = yes_case refl h
by_test false x y bound P yes_case no_case h = no_case refl h

pub least_from-holds : (test : ℕ → Bool) (k n : ℕ) → least_from test k n < k + n → test (least_from test k n) ≡ true
least_from-holds test k zero h = absurd (omega arith)
least_from-holds test k (suc n) h =
    by_test (test k) k (least_from test (suc k) n) (k + suc n) (λ i. test i ≡ true) (λ e l. e) (λ e l. least_from-holds test (suc k) n (omega arith)) h

none_below : (b : Bool) (k y j : ℕ) (t : ℕ → Bool) → b ≡ t k → k ≤ j → (suc k ≤ j → j < y → t j ≡ false) → j < (if b then k else y) → t j ≡ false
none_below true k y j t e low more h = absurd (omega arith)
none_below false k y j t e low more h =
    elim (dec_lt k j) [
      | yes below ↦ more below h
      | no met ↦ let same : j ≡ k = omega arith in rw same (sym e)
    ]

pub least_from-first : (test : ℕ → Bool) (k n j : ℕ) → k ≤ j → j < least_from test k n → test j ≡ false
least_from-first test k zero j low h = absurd (omega arith)
least_from-first test k (suc n) j low h = none_below (test k) k (least_from test (suc k) n) j test refl low (λ l b. least_from-first test (suc k) n j l b) h

pub least-within : (test : ℕ → Bool) (n : ℕ) → least test n ≤ n
unfolding least
least-within test n = let h : least_from test 0 n ≤ 0 + n = least_from-within test 0 n in omega arith

pub least-holds : (test : ℕ → Bool) (n : ℕ) → least test n < n → test (least test n) ≡ true
unfolding least
least-holds test n h = least_from-holds test 0 n (omega arith)

pub least-first : (test : ℕ → Bool) (n j : ℕ) → j < least test n → test j ≡ false
unfolding least
least-first test n j h = least_from-first test 0 n j (omega arith) h

-- where some number below n has the test, so has the least one, which is no greater
pub least-at_most : (test : ℕ → Bool) (n j : ℕ) → test j ≡ true → least test n ≤ j
least-at_most test n j holds =
    elim (dec_lt j (least test n)) [
      | yes below ↦ let none : test j ≡ false = least-first test n j below in absurd (cc)
      | no met ↦ omega arith
    ]

pub least-found : (test : ℕ → Bool) (n j : ℕ) → j < n → test j ≡ true → test (least test n) ≡ true
least-found test n j below holds = let most : least test n ≤ j = least-at_most test n j holds in least-holds test n (omega arith)
