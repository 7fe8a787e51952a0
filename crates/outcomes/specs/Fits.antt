-- How great the stamps of gathered nodes are, whatever they set aside.
use Rattle.std.specs.Prelude.{◌≡◌, ℕ, ◌<◌, ◌≤◌, List, ◌++◌, All}
use Rattle.interference.specs.Net.{Net, IsVertex, degree_of, neighbour_of, back_port_of}
use Rattle.node_api.specs.Program.{Program}
use Rattle.alpha_core.specs.View.{Node}
use Rattle.wires.specs.Streams.{Begins}
use Rattle.wires.specs.StampedWires.{wires_of}
use Rattle.wires.specs.declared.stamped.Stamped.{Stamped}
use Rattle.wires.specs.declared.wire.Wire.{Wire}
use Rattle.alpha_laws.specs.Counts.{events_of_run}
use Rattle.wired_nodes.specs.Written.{IsWritten}
use Rattle.entries.specs.declared.rows.StampedEntry.{StampedEntry}
use Rattle.entries.specs.Rows.{bare_of}
use Rattle.stamps.specs.Keeps.{KeepsStamps}

-- Each node has entries of all that it did, with the stamps of its counter, and all ends have met: what was put on a
-- link is what was taken from it and then what it holds. The wires to which a node reacted begin those that it took:
-- one that it set aside is behind them, and has no entry.
pub record HaveMetAside {S M E : Type 0} (program : Program S M E) (net : Net) (nodes : ℕ → Node S M) (counters : ℕ → ℕ)
    (puts takens held : ℕ → ℕ → List (Stamped M)) (reacted : ℕ → ℕ → List (Wire M)) (wrote : ℕ → List (StampedEntry M))
    : Type 0 where
  pub keeps : (v : ℕ) → IsVertex net v → KeepsStamps net v (counters v) (puts v) (takens v) (wrote v)
  pub written : (v : ℕ) → IsVertex net v
      → IsWritten program net v (nodes v) (λ i. wires_of (puts v i)) (reacted v) (bare_of (wrote v))
  pub begun : (v i : ℕ) → IsVertex net v → i < degree_of net v → Begins (reacted v i) (wires_of (takens v i))
  pub splits : (v i : ℕ) → IsVertex net v → i < degree_of net v
      → puts v i ≡ takens (neighbour_of net v i) (back_port_of net v i) ++ held v i

-- No counter passes this number, and no stamp of a wire that was put.
pub record AreWithin {M : Type 0} (net : Net) (most : ℕ) (counters : ℕ → ℕ) (puts : ℕ → ℕ → List (Stamped M))
    : Type 0 where
  pub counter : (v : ℕ) → IsVertex net v → counters v ≤ most
  pub put : (v i : ℕ) → IsVertex net v → i < degree_of net v → All (λ x. x.stamp ≤ most) (puts v i)

-- Then none passes the number of events that a whole run has.
abbrev pub MetStampsAreBounded : {S M E : Type 0} → Program S M E → Net → Type 0
MetStampsAreBounded {S} {M} program net =
    (nodes : ℕ → Node S M) (counters : ℕ → ℕ) (puts takens held : ℕ → ℕ → List (Stamped M))
    (reacted : ℕ → ℕ → List (Wire M)) (wrote : ℕ → List (StampedEntry M))
    → HaveMetAside program net nodes counters puts takens held reacted wrote
    → AreWithin net (events_of_run program net) counters puts
