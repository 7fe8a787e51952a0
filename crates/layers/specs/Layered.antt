-- A node that finds its layer: what it knows of its distance, how many ports it has, and its last pulse.
use Rattle.std.specs.Prelude.{ℕ}
use Rattle.layers.specs.declared.layer.Layer.{Layer}

pub record Layered : Type 0 where
  pub layer : Layer
  pub degree : ℕ
  pub last : ℕ
