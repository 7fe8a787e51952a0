-- Six colours are left after as many bit steps as the iterated logarithm of the number of colours.
use Rattle.std.proofs.Common.{◌≡◌, ℕ, zero, suc, ◌+◌, ◌-◌, ◌*◌, ◌^◌, ◌<◌, ◌≤◌, Bool, true, refl, ap, sym, arith, subst}
use Rattle.std.specs.Prelude.{Option, nat_le}
use Rattle.std.proofs.Math.Pow.{pow_mono}
use Rattle.std.proofs.lemmas.Nat.{pow_below, pow_pos}
use Rattle.std.proofs.lemmas.Bool.Decides.{nat_tests}
use Rattle.std.proofs.lemmas.Bool.{le-leb}
use native.Mathlib.Decide.{dec_lt}
use Prim.{yes, no}
use Rattle.colour_base.specs.Forest.{IsProper, IsWithin}
use Rattle.colour_base.specs.Least.{least}
use Rattle.colour_base.proofs.LeastLemmas.{least-at_most, least-holds, least-within}
use Rattle.cole_vishkin.specs.Digits.{HasDigits}
use Rattle.cole_vishkin.specs.BitStep.{bit, bit_steps}
use Rattle.bound_laws.specs.FewSteps.{digits_for, log_star, steps_for, tower}
use Rattle.cole_vishkin.proofs.StepLemmas.{bit-proper, bit-small, bit_steps-proper}

double : (n : ℕ) → 0 < n → 2 ^ n ≡ 2 * 2 ^ (n - 1)
double zero h = absurd (omega arith)
double (suc n) h = let e : suc n - 1 ≡ n = omega arith in rw e (omega arith)

tower-above : (k : ℕ) → k < tower k
tower-above zero = omega arith
tower-above (suc k) =
    let before : k < tower k = tower-above k in
    let more : 2 ^ k < 2 ^ tower k = pow_below k (tower k) before in
    let here : suc k ≤ 2 ^ k = suc-below k in
    omega (arith, more, here)
  where
    suc-below : (k : ℕ) → suc k ≤ 2 ^ k
    suc-below zero = omega arith
    suc-below (suc k) = let h : suc k ≤ 2 ^ k = suc-below k in omega (arith, h)

-- k + 1 steps are for more digits than a tower of k twos
digits-above : (k : ℕ) → tower k + 2 ≤ digits_for k
digits-above zero = omega arith
digits-above (suc k) =
    let before : tower k + 2 ≤ digits_for k = digits-above k in
    let more : 2 ^ (tower k + 1) ≤ 2 ^ (digits_for k - 1) = pow_mono {i = tower k + 1} {j = digits_for k - 1} (omega (arith, before)) in
    let twice : 2 ^ (tower k + 1) ≡ 2 * 2 ^ tower k = (let e : tower k + 1 ≡ suc (tower k) = omega arith in rw e (omega arith)) in
    let some : 2 ^ 1 ≤ 2 ^ tower k = pow_mono {i = 1} {j = tower k} (let h : k < tower k = tower-above k in omega (arith, h)) in
    omega (arith, more, twice, some)

-- the least number up to n with a test, if n has it
least-has : (test : ℕ → Bool) (n : ℕ) → test n ≡ true → test (least test n) ≡ true
least-has test n holds = elim (dec_lt (least test n) n) [
  | yes below ↦ least-holds test n below
  | no end ↦
      let same : least test n ≡ n = (let h : least test n ≤ n = least-within test n in omega (arith, h, end)) in
      rw same holds
]

at-most : (a b : ℕ) → nat_le a b ≡ true → a ≤ b
at-most a b h = grind (arith, nat_tests)

pub log_star-reached : (n : ℕ) → n ≤ tower (log_star n)
unfolding log_star
log_star-reached n = at-most n (tower (least (λ k. nat_le n (tower k)) n))
    (least-has (λ k. nat_le n (tower k)) n (le-leb n (tower n) (let h : n < tower n = tower-above n in omega (arith, h))))

pub log_star-least : (n k : ℕ) → n ≤ tower k → log_star n ≤ k
unfolding log_star
log_star-least n k h = least-at_most (λ j. nat_le n (tower j)) n k (le-leb n (tower k) h)

-- as 2 ^ i is at most 2 ^ j only if i is at most j
pow-back : (i j : ℕ) → 2 ^ i ≤ 2 ^ j → i ≤ j
pow-back i j h = elim (dec_lt j i) [
  | yes below ↦ let more : 2 ^ j < 2 ^ i = pow_below j i below in absurd (omega (arith, h, more))
  | no met ↦ omega (arith, met)
]

least-of-power : (b k : ℕ) → 0 < b → 2 ^ b ≤ tower k → suc (log_star b) ≤ k
least-of-power b zero some h = let more : 2 ^ 1 ≤ 2 ^ b = pow_mono {i = 1} {j = b} some in absurd (omega (arith, h, more))
least-of-power b (suc k) some h =
    let least : log_star b ≤ k = log_star-least b k (pow-back b (tower k) h) in omega (arith, least)

-- the logarithm of a power of two is its exponent
pub log_star-power : (b : ℕ) → 0 < b → log_star (2 ^ b) ≡ suc (log_star b)
log_star-power b some =
    let most : log_star (2 ^ b) ≤ suc (log_star b) = log_star-least (2 ^ b) (suc (log_star b)) (pow_mono (log_star-reached b)) in
    let least : suc (log_star b) ≤ log_star (2 ^ b) = least-of-power b (log_star (2 ^ b)) some (log_star-reached (2 ^ b)) in
    omega (arith, most, least)

pub steps-reached : (b : ℕ) → (k : ℕ) × (steps_for b ≡ suc k) × (b ≤ digits_for k)
unfolding steps_for
steps-reached b = (
  least (λ k. nat_le b (digits_for k)) b,
  refl,
  at-most b (digits_for (least (λ k. nat_le b (digits_for k)) b))
      (least-has (λ k. nat_le b (digits_for k)) b (le-leb b (digits_for b)
      (let h : b < tower b = tower-above b in let d : tower b + 2 ≤ digits_for b = digits-above b in omega (arith, h, d)))),
)

pub steps-least : (b k : ℕ) → b ≤ digits_for k → steps_for b ≤ suc k
unfolding steps_for
steps-least b k h =
    let least : least (λ j. nat_le b (digits_for j)) b ≤ k = least-at_most (λ j. nat_le b (digits_for j)) b k (le-leb b (digits_for k) h) in
    omega (arith, least)

pub steps-few : (b : ℕ) → steps_for b ≤ suc (log_star b)
steps-few b = steps-least b (log_star b)
    (let h : b ≤ tower (log_star b) = log_star-reached b in let d : tower (log_star b) + 2 ≤ digits_for (log_star b) = digits-above (log_star b) in
    omega (arith, h, d))

-- three steps are for 8 digits, four for 128
pub four-steps : steps_for 128 ≡ 4
four-steps =
    let most : steps_for 128 ≤ 4 = steps-least 128 3 (omega arith) in
    let found = steps-reached 128 in
    not-fewer (steps_for 128) found.0 found.1 found.2 most
  where
    not-fewer : (n k : ℕ) → n ≡ suc k → 128 ≤ digits_for k → n ≤ 4 → n ≡ 4
    not-fewer n zero e h most = absurd (omega (arith, h))
    not-fewer n (suc zero) e h most = absurd (omega (arith, h))
    not-fewer n (suc (suc zero)) e h most = absurd (omega (arith, h))
    not-fewer n (suc (suc (suc k))) e h most = omega (arith, e, most)

first-step : (k : ℕ) (parents : ℕ → Option ℕ) (c : ℕ → ℕ) → bit_steps (suc k) parents c ≡ bit_steps k parents (bit parents c)
first-step zero parents c = refl
first-step (suc k) parents c = ap (bit parents) (first-step k parents c)

-- k + 1 steps of as many digits as they are for
six-left : (k : ℕ) (parents : ℕ → Option ℕ) (c : ℕ → ℕ) → IsProper parents c → HasDigits (digits_for k) c
    → IsWithin 5 (bit_steps (suc k) parents c)
six-left zero parents c proper small =
    λ v. let h : bit parents c v < 2 * 3 = bit-small 3 parents c (omega arith) proper small v in omega (arith, h)
six-left (suc k) parents c proper small =
    let d : ℕ = digits_for k in
    let some : 0 < digits_for (suc k) = pow_pos (d - 1) in
    let enough : 0 < d = (let h : tower k + 2 ≤ d = digits-above k in omega (arith, h)) in
    let less : HasDigits d (bit parents c) = λ v.
    subst (λ (n : ℕ). bit parents c v < n) (sym (double d enough)) (bit-small (digits_for (suc k)) parents c some proper small v) in
    subst (IsWithin 5) (sym (first-step (suc k) parents c)) (six-left k parents (bit parents c) (bit-proper parents c proper) less)

-- and six stay six
six-stay : (k s : ℕ) (parents : ℕ → Option ℕ) (c : ℕ → ℕ) → IsProper parents c → IsWithin 5 (bit_steps s parents c) → s ≤ k
    → IsWithin 5 (bit_steps k parents c)
six-stay zero s parents c proper six h = let e : s ≡ 0 = omega (arith, h) in subst (λ (n : ℕ). IsWithin 5 (bit_steps n parents c)) e six
six-stay (suc k) s parents c proper six h = elim (dec_lt k s) [
  | yes all ↦ let e : s ≡ suc k = omega (arith, h, all) in subst (λ (n : ℕ). IsWithin 5 (bit_steps n parents c)) e six
  | no more ↦
      let before : IsWithin 5 (bit_steps k parents c) = six-stay k s parents c proper six (omega (arith, more)) in
      λ v. let low : bit parents (bit_steps k parents c) v < 2 * 3 = bit-small 3 parents (bit_steps k parents c) (omega arith)
      (bit_steps-proper k parents c proper) (λ w. omega (arith, before w)) v in omega (arith, low)
]

more-digits : (b n : ℕ) (c : ℕ → ℕ) → b ≤ n → HasDigits b c → HasDigits n c
more-digits b n c h small v = let more : 2 ^ b ≤ 2 ^ n = pow_mono {i = b} {j = n} h in let here : c v < 2 ^ b = small v in omega (arith, more, here)

pub six-by-digits : (b k : ℕ) (parents : ℕ → Option ℕ) (c : ℕ → ℕ) → IsProper parents c → HasDigits b c → steps_for b ≤ k
    → IsWithin 5 (bit_steps k parents c)
six-by-digits b k parents c proper small h =
    let found = steps-reached b in
    six-stay k (suc found.0) parents c proper (six-left found.0 parents c proper (more-digits b (digits_for found.0) c found.2 small))
    (omega (arith, h, found.1))

six-by-tower : (n j k : ℕ) (parents : ℕ → Option ℕ) (c : ℕ → ℕ) → IsProper parents c → ((v : ℕ) → c v < n) → n ≤ tower j → j ≤ k
    → IsWithin 5 (bit_steps k parents c)
six-by-tower n zero k parents c proper small low h =
    six-stay k 0 parents c proper (λ v. let here : c v < n = small v in omega (arith, here, low)) h
six-by-tower n (suc j) k parents c proper small low h =
    let few : steps_for (tower j) ≤ suc j = steps-least (tower j) j (let d : tower j + 2 ≤ digits_for j = digits-above j in omega (arith, d)) in
    six-by-digits (tower j) k parents c proper (λ v. let here : c v < n = small v in omega (arith, here, low)) (omega (arith, few, h))

pub six-by-colours : (n k : ℕ) (parents : ℕ → Option ℕ) (c : ℕ → ℕ) → IsProper parents c → ((v : ℕ) → c v < n) → log_star n ≤ k
    → IsWithin 5 (bit_steps k parents c)
six-by-colours n k parents c proper small h = six-by-tower n (log_star n) k parents c proper small (log_star-reached n) h
