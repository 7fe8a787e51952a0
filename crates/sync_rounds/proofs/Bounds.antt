-- Bounds of a loop over the vertices, and numbers that fit into their widths.
use Rattle.std.proofs.Common.{◌≡◌, ℕ, suc, ◌+◌, ◌*◌, ◌<◌, ◌≤◌, Fits, w32, w64, arith}
use Rattle.std.proofs.Math.Nat.{mul-le-mul_right}

-- nothing is below 0
pub none_below : {A : Type 0} (k : ℕ) → k < 0 → A
none_below k low = absurd (omega arith)

-- the next number
pub one_next : (n : ℕ) → 1 ≤ n + 1
one_next n = omega arith

pub next_is : (n : ℕ) → suc n ≡ n + 1
next_is n = omega arith

-- a number of 32 bits fits into 32 and 64
pub fits_narrow : (n : ℕ) → n < 4294967296 → Fits w32 n
fits_narrow n h = omega arith

pub fits_wider : (n : ℕ) → n < 4294967296 → Fits w64 n
fits_wider n h = omega arith

-- The turn of a loop up to a number of 32 bits: its place fits, so does that place among items of 72 or 4 bytes, and
-- so does the next place.
module _ (i end : ℕ) (low : i < end) (fits : end < 4294967296) where
  pub place_fits : Fits w64 i
  place_fits = omega arith

  pub place_of_seventy_two : Fits w64 (i * 72)
  place_of_seventy_two = omega arith

  pub place_of_four : Fits w64 (i * 4)
  place_of_four = omega arith

  pub fits_next : Fits w32 (i + 1)
  fits_next = omega arith

-- the place of an item of any size, in a list whose items fit
pub place_within : (i n size : ℕ) → i < n → n * size < 9223372036854775808 → Fits w64 (i * size)
place_within i n size low fits =
    let smaller : i * size ≤ n * size = mul-le-mul_right size (omega arith) in
    omega (arith, smaller, fits)

-- the vertex of the loop's turn is one of so many
pub vertex_next : (i end n : ℕ) → i < end → end ≡ n → (1 ≤ i + 1) × (i + 1 ≤ n)
vertex_next i end n low is = (omega arith, omega arith)

-- its place is one of so many, and of a list that is as long
pub below_count : (i end n : ℕ) → i < end → end ≡ n → i < n
below_count i end n low is = omega arith

pub below_length : (i end n size : ℕ) → i < end → end ≡ n → size ≡ n → i < size
below_length i end n size low is same = omega arith

-- a number up to the greatest has its place among so many and one more
pub upto_greatest : (k end greatest size len : ℕ) → k < end + 1 → end ≡ greatest → size ≡ greatest + 1 → len ≡ size → k < len
upto_greatest k end greatest size len low is same long = omega arith

-- once the loop has ended, each place has had its turn
pub had_turn : (i end n k : ℕ) → end ≤ i → end ≡ n → k < n → k < i
had_turn i end n k past is low = omega arith

pub last_turn : (i end n : ℕ) → end ≤ i → i ≤ end → end ≡ n → i ≡ n
last_turn i end n past within is = omega arith
