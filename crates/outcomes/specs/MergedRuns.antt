-- What the stamped entries of a run of workers are, once all ends have met.
use Rattle.std.specs.Prelude.{◌≡◌, ℕ, ◌<◌, IsTrue, List, [], ◌++◌, Ok}
use Rattle.interference.specs.Net.{Net, IsVertex, count_of, degree_of, neighbour_of, back_port_of}
use Rattle.node_api.specs.Program.{Program, last_pulse_on}
use Rattle.alpha_core.specs.View.{Node, is_drained}
use Rattle.wires.specs.declared.stamped.Stamped.{Stamped}
use Rattle.wired_nodes.specs.Written.{IsWritten}
use Rattle.event_rule.specs.declared.event.Event.{Event}
use Rattle.event_rule.specs.State.{Link, State, link_at, node_of, sent_of}
use Rattle.event_rule.specs.Step.{run}
use Rattle.event_rule.specs.Replays.{IsReplay}
use Rattle.event_rule.specs.Whole.{IsStampedReplay, IsWholeReplay}
use Rattle.stamps.specs.Keeps.{KeepsStamps}
use Rattle.entries.specs.declared.rows.StampedRow.{StampedRow}
use Rattle.stamps.specs.Merged.{IsMerge, rows_in}
use Rattle.wires.specs.StampedWires.{wires_of}
use Rattle.entries.specs.declared.rows.StampedEntry.{StampedEntry}
use Rattle.stamps.specs.Stamps.{Carries, Rises, put_in, taken_in}
use Rattle.entries.specs.Rows.{bare_of}

-- The entries of each node are all that it did, from its start to what it is, with the lists of its links; and each
-- take of a link is of its put, and later.
pub record AreWritten {S M E : Type 0} (program : Program S M E) (net : Net) (nodes : ℕ → Node S M)
    (links : ℕ → ℕ → Link M) (wrote : ℕ → List (StampedEntry M)) : Type 0 where
  pub written : (v : ℕ) → IsVertex net v
      → IsWritten program net v (nodes v) (λ i. sent_of (links v i))
      (λ i. (links (neighbour_of net v i) (back_port_of net v i)).taken) (bare_of (wrote v))
  pub carried : (v i : ℕ) → IsVertex net v → i < degree_of net v
      → Carries (put_in (wrote v) (neighbour_of net v i)) (taken_in (wrote (neighbour_of net v i)) v) (links v i).held

-- The rows are a replay, which leads to these nodes and links.
pub record IsReplayTo {S M E : Type 0} (program : Program S M E) (net : Net) (rows : List (StampedRow M))
    (nodes : ℕ → Node S M) (links : ℕ → ℕ → Link M) : Type 0 where
  pub last : State S M
  pub replay : IsReplay program net (rows_in rows) last
  pub nodes_are : (v : ℕ) → IsVertex net v → node_of program net last v ≡ nodes v
  pub links_are : (v i : ℕ) → IsVertex net v → i < degree_of net v → link_at last.links v i ≡ links v i

-- A list of events of the machine leads to these nodes and links.
pub record IsRunTo {S M E : Type 0} (program : Program S M E) (net : Net) (nodes : ℕ → Node S M)
    (links : ℕ → ℕ → Link M) : Type 0 where
  pub events : List Event
  pub last : State S M
  pub is_run : run program net events ≡ Ok last
  pub nodes_are : (v : ℕ) → IsVertex net v → node_of program net last v ≡ nodes v
  pub links_are : (v i : ℕ) → IsVertex net v → i < degree_of net v → link_at last.links v i ≡ links v i

-- One merged run: the entries of all nodes, in the order of their stamps, are a replay that leads to what the nodes and
-- links are, whatever the links still hold.
abbrev pub MergedRunsReplay : {S M E : Type 0} → Program S M E → Net → Type 0
MergedRunsReplay {S} {M} program net =
    (nodes : ℕ → Node S M) (links : ℕ → ℕ → Link M) (wrote : ℕ → List (StampedEntry M)) (rows : List (StampedRow M))
    → AreWritten program net nodes links wrote → IsMerge (count_of net) wrote rows
    → IsReplayTo program net rows nodes links

-- All nodes keep their stamps and are written down, and all ends have met: what was put on a link is what was taken
-- from it and then what it holds, each wire with the stamp of its put.
pub record HaveMet {S M E : Type 0} (program : Program S M E) (net : Net) (nodes : ℕ → Node S M) (counters : ℕ → ℕ)
    (puts takens held : ℕ → ℕ → List (Stamped M)) (wrote : ℕ → List (StampedEntry M)) : Type 0 where
  pub keeps : (v : ℕ) → IsVertex net v → KeepsStamps net v (counters v) (puts v) (takens v) (wrote v)
  pub written : (v : ℕ) → IsVertex net v
      → IsWritten program net v (nodes v) (λ i. wires_of (puts v i)) (λ i. wires_of (takens v i)) (bare_of (wrote v))
  pub splits : (v i : ℕ) → IsVertex net v → i < degree_of net v
      → puts v i ≡ takens (neighbour_of net v i) (back_port_of net v i) ++ held v i

-- the links, without stamps
abbrev pub links_of : {M : Type 0} → Net → (ℕ → ℕ → List (Stamped M)) → (ℕ → ℕ → List (Stamped M)) → ℕ → ℕ → Link M
links_of net takens held v i = record {
  taken = wires_of (takens (neighbour_of net v i) (back_port_of net v i));
  held = wires_of (held v i);
}

-- Then each take of a link is of its put, and later, and the stamps of each node rise.
abbrev pub MetNodesAreWritten : {S M E : Type 0} → Program S M E → Net → Type 0
MetNodesAreWritten {S} {M} program net =
    (nodes : ℕ → Node S M) (counters : ℕ → ℕ) (puts takens held : ℕ → ℕ → List (Stamped M))
    (wrote : ℕ → List (StampedEntry M)) → HaveMet program net nodes counters puts takens held wrote
    → AreWritten program net nodes (links_of net takens held) wrote × ((v : ℕ) → IsVertex net v → Rises (wrote v))

-- What they wrote down, in order, is a replay that leads to them, and each row has its stamp behind the rows before it.
abbrev pub MetRunsReplay : {S M E : Type 0} → Program S M E → Net → Type 0
MetRunsReplay {S} {M} program net =
    (nodes : ℕ → Node S M) (counters : ℕ → ℕ) (puts takens held : ℕ → ℕ → List (Stamped M))
    (wrote : ℕ → List (StampedEntry M)) (rows : List (StampedRow M))
    → HaveMet program net nodes counters puts takens held wrote → IsMerge (count_of net) wrote rows
    → (to : IsReplayTo program net rows nodes (links_of net takens held))
    × IsStampedReplay program net rows to.last

-- If all nodes are drained and all links are empty, it is a whole replay.
abbrev pub WholeRunsReplay : {S M E : Type 0} → Program S M E → Net → Type 0
WholeRunsReplay {S} {M} program net =
    (nodes : ℕ → Node S M) (counters : ℕ → ℕ) (puts takens held : ℕ → ℕ → List (Stamped M))
    (wrote : ℕ → List (StampedEntry M)) (rows : List (StampedRow M))
    → HaveMet program net nodes counters puts takens held wrote → IsMerge (count_of net) wrote rows
    → ((v : ℕ) → IsVertex net v → IsTrue (is_drained (last_pulse_on program net) (nodes v).view))
    → ((v i : ℕ) → IsVertex net v → i < degree_of net v → held v i ≡ [])
    → (last : State S M) × IsWholeReplay program net rows last
    × ((v : ℕ) → IsVertex net v → node_of program net last v ≡ nodes v)
