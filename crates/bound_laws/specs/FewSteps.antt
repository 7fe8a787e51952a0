-- How many bit steps leave six colours, and the iterated logarithm.
use Rattle.std.specs.Prelude.{ℕ, zero, suc, ◌-◌, ◌^◌, nat_le}
use Rattle.colour_base.specs.Least.{least}

-- a tower of k twos: 1, 2, 4, 16, 65536, ..
abbrev pub tower : ℕ → ℕ
tower zero = 1
tower (suc k) = 2 ^ tower k

-- log* n, the iterated logarithm: the least k for which n is at most a tower of k twos
unfoldable pub log_star : ℕ → ℕ
log_star n = least (λ k. nat_le n (tower k)) n

-- from how many binary digits k + 1 bit steps leave six colours: 3, 4, 8, 128, ..
abbrev pub digits_for : ℕ → ℕ
digits_for zero = 3
digits_for (suc k) = 2 ^ (digits_for k - 1)

-- how many bit steps leave six colours of those of b binary digits
unfoldable pub steps_for : ℕ → ℕ
steps_for b = suc (least (λ k. nat_le b (digits_for k)) b)
