-- What a run of workers leaves, and what it promises of it.
use Rattle.std.specs.Prelude.{◌≡◌, ℕ, ◌-◌, ◌<◌, ◌≤◌, Bool, true, ◌&&◌, nat_eq, IsTrue}
use Rattle.std.specs.Prelude.{List, [], ◌∷◌, ◌++◌, map, length, slice_index_or}
use Rattle.interference.specs.Net.{Net, IsVertex, count_of, vertices, degree_of, neighbour_of, back_port_of}
use Rattle.node_api.specs.Program.{Program, last_pulse_on}
use Rattle.wires.specs.declared.wire.Wire.{Wire}
use Rattle.wires.specs.declared.stamped.Stamped.{Stamped}
use Rattle.wires.specs.StampedWires.{wires_of}
use Rattle.alpha_core.specs.View.{Alpha, Node, is_drained}
use Rattle.alpha_core.specs.Program.{start_node}
use Rattle.alpha_laws.specs.Simulates.{Simulates}
use Rattle.wired_nodes.specs.Written.{IsTranscript}
use Rattle.entries.specs.declared.rows.StampedRow.{StampedRow}
use Rattle.stamps.specs.Merged.{IsMerge}
use Rattle.stamps.specs.Stamps.{Carries, Rises, put_in, taken_in}
use Rattle.entries.specs.declared.rows.StampedEntry.{StampedEntry}
use Rattle.entries.specs.Rows.{bare_of}
use Rattle.event_rule.specs.State.{Link}
use Rattle.event_rule.specs.Whole.{IsStampedReplay}
use Rattle.outcomes.specs.MergedRuns.{IsReplayTo, IsRunTo}

-- One direction of a link after the run: all that was put on it, what was taken from it, and what it still holds, each
-- wire with the stamp of its put.
pub record History (M : Type 0) : Type 0 where
  pub put : List (Stamped M)
  pub taken : List (Stamped M)
  pub held : List (Stamped M)

-- A node after the run, with its vertex and its entries, each with its stamp.
pub record Gathered (S M : Type 0) : Type 0 where
  pub vertex : ℕ
  pub alpha : Alpha S M
  pub entries : List (StampedEntry M)

-- Entry v - 1 of each list is of vertex v: its node, and the links out of it, by port.
pub record Outcome (S M : Type 0) : Type 0 where
  pub nodes : List (Gathered S M)
  pub links : List (List (History M))

abbrev pub no_history : {M : Type 0} → History M
no_history = record { put = []; taken = []; held = [] }

-- a node of the program before its first event
abbrev pub start_of : {S M E : Type 0} → Program S M E → Net → ℕ → Alpha S M
start_of program net v = record { last = last_pulse_on program net; node = start_node program net v }

-- the node of a vertex, with its last pulse
abbrev pub alpha_in : {S M E : Type 0} → Program S M E → Net → Outcome S M → ℕ → Alpha S M
alpha_in program net outcome v = slice_index_or (map (λ g. g.alpha) outcome.nodes) (v - 1) (start_of program net v)

-- the node of a vertex
abbrev pub node_in : {S M E : Type 0} → Program S M E → Net → Outcome S M → ℕ → Node S M
node_in program net outcome v = (alpha_in program net outcome v).node

-- what the node of a vertex wrote down
abbrev pub entries_in : {S M : Type 0} → Outcome S M → ℕ → List (StampedEntry M)
entries_in outcome v = slice_index_or (map (λ g. g.entries) outcome.nodes) (v - 1) []

-- the links out of a vertex, by port
abbrev pub row_in : {S M : Type 0} → Outcome S M → ℕ → List (History M)
row_in outcome v = slice_index_or outcome.links (v - 1) []

-- the link out of v by port i
abbrev pub link_in : {S M : Type 0} → Outcome S M → ℕ → ℕ → History M
link_in outcome v i = slice_index_or (row_in outcome v) i no_history

-- the link that comes to v by port i
abbrev pub link_into : {S M : Type 0} → Net → Outcome S M → ℕ → ℕ → History M
link_into net outcome v i = link_in outcome (neighbour_of net v i) (back_port_of net v i)

-- by vertex and port, without stamps: what was put on the link, what was taken from the link that comes there, and what
-- the link holds
abbrev pub put_by : {S M : Type 0} → Outcome S M → ℕ → ℕ → List (Wire M)
put_by outcome v i = wires_of (link_in outcome v i).put

abbrev pub taken_by : {S M : Type 0} → Net → Outcome S M → ℕ → ℕ → List (Wire M)
taken_by net outcome v i = wires_of (link_into net outcome v i).taken

abbrev pub held_on : {S M : Type 0} → Outcome S M → ℕ → ℕ → List (Wire M)
held_on outcome v i = wires_of (link_in outcome v i).held

-- a link in the event machine, whose wires have no stamps
abbrev pub link_of : {M : Type 0} → History M → Link M
link_of history = record { taken = wires_of history.taken; held = wires_of history.held }

-- every node is drained
abbrev pub all_drained : {S M : Type 0} → List (Gathered S M) → Bool
all_drained [] = true
all_drained (g ∷ gs) = is_drained g.alpha.last g.alpha.node.view && all_drained gs

-- no link of a row holds a wire
abbrev pub none_held : {M : Type 0} → List (History M) → Bool
none_held [] = true
none_held (h ∷ hs) = nat_eq (length h.held) 0 && none_held hs

-- no link holds a wire
abbrev pub all_empty : {M : Type 0} → List (List (History M)) → Bool
all_empty [] = true
all_empty (row ∷ rows) = none_held row && all_empty rows

-- every node is drained, and every link is empty
abbrev pub is_whole : {S M : Type 0} → Outcome S M → Bool
is_whole outcome = all_drained outcome.nodes && all_empty outcome.links

-- What every run of workers leaves, over links of this capacity, with a transcript or without, whatever the threads
-- did.
pub record IsOutcome {S M E : Type 0} (program : Program S M E) (net : Net) (capacity : ℕ) (transcript : Bool)
    (outcome : Outcome S M) : Type 0 where
  -- The nodes are 1 to n, each once, ascending, and each knows the last pulse.
  pub each_once : map (λ g. g.vertex) outcome.nodes ≡ vertices net
  pub last : (v : ℕ) → IsVertex net v → (alpha_in program net outcome v).last ≡ last_pulse_on program net
  -- There is a link for each vertex and port; all that was put on it is what was taken from it, and then what it holds,
  -- which is no more than its capacity. Each wire has its stamp in all three lists.
  pub rows : length outcome.links ≡ length (vertices net)
  pub row : (v : ℕ) → IsVertex net v → length (row_in outcome v) ≡ degree_of net v
  pub splits : (v i : ℕ) → IsVertex net v → i < degree_of net v
      → (link_in outcome v i).put ≡ (link_in outcome v i).taken ++ (link_in outcome v i).held
  pub room : (v i : ℕ) → IsVertex net v → i < degree_of net v → length (link_in outcome v i).held ≤ capacity
  -- The nodes simulate the synchronous run: each fits its links, what was put standing for what was sent.
  pub simulates : Simulates program net (node_in program net outcome) (put_by outcome) (taken_by net outcome)
  -- With a transcript, the entries of a node are all that it did from its start to what it is, and those to and from a
  -- neighbour are what was put on that link and taken from that one; without a transcript there are none.
  pub written : (v : ℕ) → IsVertex net v
      → IsTranscript program net v transcript (node_in program net outcome v) (put_by outcome v)
      (taken_by net outcome v) (bare_of (entries_in outcome v))
  -- With a transcript the stamps of each node rise, and each wire that was put has the stamp of its put; the k-th take
  -- from a link is of the k-th wire put on it, and has a greater stamp.
  pub rises : IsTrue transcript → (v : ℕ) → IsVertex net v → Rises (entries_in outcome v)
  pub put_are : IsTrue transcript → (v i : ℕ) → IsVertex net v → i < degree_of net v
      → put_in (entries_in outcome v) (neighbour_of net v i) ≡ (link_in outcome v i).put
  pub carries : IsTrue transcript → (v i : ℕ) → IsVertex net v → i < degree_of net v
      → Carries (put_in (entries_in outcome v) (neighbour_of net v i))
      (taken_in (entries_in outcome (neighbour_of net v i)) v) (held_on outcome v i)
  -- With a transcript the entries of all nodes, in the order of their stamps and then of their vertices, are one run of
  -- the event machine. It leads to these nodes and links, and each entry has the stamp that those before it give it.
  pub merged : IsTrue transcript → (rows : List (StampedRow M)) → IsMerge (count_of net) (entries_in outcome) rows
      → (to : IsReplayTo program net rows (node_in program net outcome) (λ v i. link_of (link_in outcome v i)))
      × IsStampedReplay program net rows to.last
  -- With a transcript or without, some list of events of the event machine leads to these nodes and links. It isn't
  -- said which, nor that the threads made its events in this order.
  pub is_run : ∥ IsRunTo program net (node_in program net outcome) (λ v i. link_of (link_in outcome v i)) ∥₁
