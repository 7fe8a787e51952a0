-- What a node did, written down or not.
use Rattle.std.specs.Prelude.{ℕ, true, List}
use Rattle.interference.specs.Net.{Net}
use Rattle.node_api.specs.Program.{Program}
use Rattle.wires.specs.declared.stamped.Stamped.{Stamped}
use Rattle.wires.specs.declared.wire.Wire.{Wire}
use Rattle.alpha_core.specs.View.{Node}
use Rattle.entries.specs.declared.rows.StampedEntry.{StampedEntry}
use Rattle.entries.specs.Rows.{bare_of}
use Rattle.wired_nodes.specs.HasStamps.{HasStamps}
use Rattle.wired_nodes.specs.Written.{IsTranscript}

-- Entries that a node of v would have, had it written them down: all that it did, with these lists of its ends, and
-- with the stamps that its counter gives them. `puts` and `reacted` are without stamps, and `reacted` without a wire
-- that was set aside.
pub record Did {S M E : Type 0} (program : Program S M E) (net : Net) (v counter : ℕ) (node : Node S M)
    (puts reacted : ℕ → List (Wire M)) (stamped_puts stamped_takens : ℕ → List (Stamped M)) : Type 0 where
  pub entries : List (StampedEntry M)
  pub writes : IsTranscript program net v true node puts reacted (bare_of entries)
  pub stamps : HasStamps net v true counter stamped_puts stamped_takens entries
