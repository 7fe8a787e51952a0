-- The colour of a node that a run of workers left.
use Rattle.std.specs.Prelude.{ℕ}
use Rattle.colour_rules.specs.Node as colour
use Rattle.colour_rules.specs.declared.payload.Payload.{Payload}
use Rattle.outcomes.specs.Outcome.{Gathered}

-- the merged colour in its state
abbrev pub merged_of : Gathered colour.Node Payload → ℕ
merged_of node = node.alpha.node.state.merged
