-- Which tasks each worker begins with.
use Rattle.std.specs.Prelude.{ℕ, ◌%◌, ◌==◌, List, reverse}
use Rattle.std.specs.List.{filter}

-- Of tasks that are dealt from the last to the first among so many workers, those of worker k: the numbers that are k
-- modulo the number of workers, in the order in which they are dealt.
abbrev pub begun_by : (workers k : ℕ) → List ℕ → List ℕ
begun_by workers k numbers = filter (λ n. n % workers == k) (reverse numbers)
