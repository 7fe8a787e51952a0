-- How many edges a network has, and sums over the ends of its edges.
use Rattle.std.specs.Prelude.{ℕ, nat_lt, sum_by, count_by}
use Rattle.std.specs.List.{range_with_len}
use Rattle.interference.specs.Net.{Net, vertices, neighbours, degree_of}

-- the sum of a number over every vertex and each of its ports
abbrev pub sum_over_ports : Net → (ℕ → ℕ → ℕ) → ℕ
sum_over_ports net f = sum_by (λ v. sum_by (f v) (range_with_len 0 (degree_of net v))) (vertices net)

-- the sum of all degrees
abbrev pub degree_sum_of : Net → ℕ
degree_sum_of net = sum_by (degree_of net) (vertices net)

-- how many edges there are: each is counted at its smaller vertex
abbrev pub edge_count_of : Net → ℕ
edge_count_of net = sum_by (λ v. count_by (nat_lt v) (neighbours net v)) (vertices net)
