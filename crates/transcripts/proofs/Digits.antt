-- How many digits a number below 2^32 has, and one below 2^64.
use Rattle.std.proofs.Common.{◌<◌, ◌^◌, ◌≤◌, ℕ, arith, length}
use Rattle.std.proofs.lemmas.Fmt.{length-decimal-le}
use Rattle.std.specs.Fmt.{decimal}

pub few-digits : (n : ℕ) → n < 2 ^ 32 → length (decimal n) ≤ 10
few-digits n fits = length-decimal-le 10 n (omega arith) (omega (arith, fits)) (omega (arith, fits))

pub stamp-digits : (n : ℕ) → n < 2 ^ 64 → length (decimal n) ≤ 20
stamp-digits n fits = length-decimal-le 20 n (omega arith) (omega (arith, fits)) (omega (arith, fits))
