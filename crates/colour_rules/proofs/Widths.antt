-- Numbers that fit into their widths.
use Rattle.std.proofs.Common.{◌≡◌, ℕ, ◌+◌, ◌*◌, ◌<◌, ◌≤◌, Fits, w32, w64, arith}
use Rattle.std.proofs.Math.Nat.{mul-le-mul_right}

-- a number of 32 bits fits into 64
pub fits_wider : (n : ℕ) → n < 4294967296 → Fits w64 n
fits_wider n h = omega arith

-- a number of 16 bits and one more fit into 32
pub fits_next : (n : ℕ) → n < 65536 → Fits w32 (n + 1)
fits_next n h = omega arith

-- one of three colours fits
pub fits_three : (n : ℕ) → n ≤ 2 → Fits w32 n
fits_three n h = omega arith

-- so many times a width fits
pub fits_times : (n width : ℕ) → n ≤ 2 → width < 65536 → Fits w32 (n * (width + 1))
fits_times n width h small =
    let most : n * (width + 1) ≤ 2 * (width + 1) = mul-le-mul_right (width + 1) h in
    omega arith

-- and so does one number more that is no higher than the width
pub fits_pair : (n width old span : ℕ) → n ≤ 2 → width ≡ span → span < 65536 → old ≤ span → Fits w32 (n * (width + 1) + old)
fits_pair n width old span h same small low =
    let most : n * (width + 1) ≤ 2 * (width + 1) = mul-le-mul_right (width + 1) h in
    omega arith
