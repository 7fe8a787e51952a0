-- What the test of two numbers for being different says of them.
use Rattle.std.proofs.Common.{◌≡◌, ◌≢◌, ℕ, ◌==◌, true, false, arith}
use Rattle.std.specs.Prelude.{not}
use Rattle.std.proofs.lemmas.Bool.Decides.{nat_tests}

pub test-apart : (x y : ℕ) → not (x == y) ≡ true → x ≢ y
test-apart x y h = grind (arith, nat_tests)

pub test-same : (x y : ℕ) → not (x == y) ≡ false → x ≡ y
test-same x y h = grind (arith, nat_tests)

pub apart-test : (x y : ℕ) → x ≢ y → not (x == y) ≡ true
apart-test x y h = grind (arith, nat_tests)
