-- A node of the election: the greatest identifier that it knows, how many ports it has, and its last pulse.
use Rattle.std.specs.Prelude.{ℕ}

pub record Elector : Type 0 where
  pub best : ℕ
  pub degree : ℕ
  pub last : ℕ
