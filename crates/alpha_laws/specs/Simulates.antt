-- A network of nodes that simulates the synchronous run.
use Rattle.std.specs.Prelude.{◌≡◌, ℕ, suc, ◌+◌, ◌<◌, ◌≤◌, IsTrue, Option, IsOk}
use Rattle.std.specs.Prelude.{List, [], ◌∷◌, ◌++◌, map, length, Contains}
use Rattle.std.specs.List.{range_with_len}
use Rattle.interference.specs.Net.{Net, IsVertex, degree_of, neighbour_of, back_port_of}
use Rattle.node_api.specs.Program.{Program, last_pulse_on}
use Rattle.node_api.specs.Run.{inbox_at}
use Rattle.wires.specs.declared.wire.Wire.{Wire}
use Rattle.wires.specs.declared.wire.Wire.TheVariants.{Safe, Close}
use Rattle.wires.specs.Wires.{data_of, acks_of, payload_at}
use Rattle.wires.specs.Streams.{Begins, sent_pulses, stream}
use Rattle.alpha_core.specs.View.{Node, port_at, inbox_of, can_take, can_pulse}
use Rattle.alpha_core.specs.Alpha.{reaction, pulse}
use Rattle.link_rule.specs.Sent.{sends}
use Rattle.alpha_laws.specs.Fits.{NodeFits}

-- what was taken from the link out of v by port i, at its other end
abbrev pub taken_over : {M : Type 0} → Net → (ℕ → ℕ → List (Wire M)) → ℕ → ℕ → List (Wire M)
taken_over net taken v i = taken (neighbour_of net v i) (back_port_of net v i)

-- what was put on the link that comes to v by port i, at its other end
abbrev pub sent_to : {M : Type 0} → Net → (ℕ → ℕ → List (Wire M)) → ℕ → ℕ → List (Wire M)
sent_to net sent v i = sent (neighbour_of net v i) (back_port_of net v i)

-- all that a node has emitted at a port: what was put on the link, and then its out-list
abbrev pub emitted_at : {S M : Type 0} → Node S M → (ℕ → List (Wire M)) → ℕ → List (Wire M)
emitted_at node sent i = sent i ++ (port_at node.view i).out

-- the payloads of a pulse in the lists that a node took, by port
abbrev pub heard_at : {M : Type 0} → Net → (ℕ → List (Wire M)) → ℕ → ℕ → List (Option M)
heard_at net taken v q = map (λ i. payload_at q (taken i)) (range_with_len 0 (degree_of net v))

-- a complete list: without acknowledgements it is the whole stream, and each payload that comes the other way is
-- acknowledged
abbrev pub IsComplete : {M : Type 0} → ℕ → (ℕ → Option M) → (ℕ → Option M) → List (Wire M) → Type 0
IsComplete last sends answers ws = (data_of ws ≡ stream sends last) × (acks_of ws ≡ sent_pulses answers last)

-- a complete list of the link from v to w
abbrev pub IsCompleteOn : {S M E : Type 0} → Program S M E → Net → ℕ → ℕ → List (Wire M) → Type 0
IsCompleteOn program net v w ws =
    IsComplete (last_pulse_on program net) (sends program net v w) (sends program net w v) ws

-- The nodes simulate the synchronous run of their program. `sent` and `taken` are the lists that each node has put on
-- its links and taken from them, by port.
pub record Simulates {S M E : Type 0} (program : Program S M E) (net : Net) (nodes : ℕ → Node S M)
    (sent taken : ℕ → ℕ → List (Wire M)) : Type 0 where
  -- Every node fits its links; so a node at pulse p is in the state of the synchronous run at p.
  pub fits : (v : ℕ) → IsVertex net v → NodeFits program net v (nodes v) (sent v) (taken v)
  -- No node is past the last pulse.
  pub within_last : (v : ℕ) → IsVertex net v → (nodes v).view.pulse ≤ last_pulse_on program net
  -- Each link hands over every message at most once, first in first out: what was taken begins what was put, wire for
  -- wire.
  pub at_most_once_in_order : (v i : ℕ) → IsVertex net v → i < degree_of net v →
      Begins (taken_over net taken v i) (sent v i)
  -- All before the closing mark: a node that has taken Close from a link has taken a complete list.
  pub all_before_close : (v i : ℕ) → IsVertex net v → i < degree_of net v → Contains (taken v i) Close
      → IsCompleteOn program net (neighbour_of net v i) v (taken v i)
  -- And none after it: nothing is put on a link after Close.
  pub none_after_close : (v i : ℕ) → IsVertex net v → i < degree_of net v
      → (before after : List (Wire M)) → sent v i ≡ before ++ (Close ∷ after) → after ≡ []
  -- Each pulse that a node completed had exactly that round's synchronous inbox: by port, the payloads of q that it
  -- took are the inbox of q + 1.
  pub exact_inboxes : (v q : ℕ) → IsVertex net v → q < (nodes v).view.pulse →
      heard_at net (taken v) v q ≡ inbox_at program net (suc q) v
  -- And so will the next one: the inbox of a pulse that a node can make is the synchronous one.
  pub exact_next_inbox : (v : ℕ) → IsVertex net v → IsTrue (can_pulse (last_pulse_on program net) (nodes v).view)
      → inbox_of (nodes v).view ≡ inbox_at program net (suc (nodes v).view.pulse) v
  -- Safe means safe: if v has emitted the safe of a pulse on any port, all of its payloads of that pulse were taken.
  pub safe_means_safe : (v i j q : ℕ) → IsVertex net v → i < degree_of net v → j < degree_of net v
      → Contains (emitted_at (nodes v) (sent v) i) (Safe q) → payload_at q (taken_over net taken v j)
      ≡ sends program net v (neighbour_of net v j) q
  -- Neighbours are at most one pulse apart.
  pub one_pulse_apart : (v i : ℕ) → IsVertex net v → i < degree_of net v →
      (nodes v).view.pulse ≤ (nodes (neighbour_of net v i)).view.pulse + 1
  -- Of each direction at most two emitted wires are untaken, Close included.
  pub at_most_two_untaken : (v i : ℕ) → IsVertex net v → i < degree_of net v
      → length (emitted_at (nodes v) (sent v) i) ≤ length (taken_over net taken v i) + 2
  -- So every node can take a wire.
  pub always_can_take : (v : ℕ) → IsVertex net v → IsTrue (can_take (nodes v).view)
  -- No node refuses the next wire of a link.
  pub no_wire_refused : (v i : ℕ) → IsVertex net v → i < degree_of net v
      → (wire : Wire M) (after : List (Wire M)) → sent_to net sent v i ≡ taken v i ++ (wire ∷ after)
      → IsOk (reaction (last_pulse_on program net) (nodes v).view i wire)
  -- No program refuses a pulse that its node can make.
  pub no_pulse_refused : (v : ℕ) → IsVertex net v → IsTrue (can_pulse (last_pulse_on program net) (nodes v).view)
      → IsOk (pulse program.next (last_pulse_on program net) (nodes v))
