-- What a node by itself keeps of its links. These records speak of one node and of the lists put on its links and taken
-- from them, and of no other node; so they serve a run of events and a run of worker threads alike. What they come to,
-- once the lists of both ends of each link meet, is `Simulates`.
use Rattle.std.specs.Prelude.{◌≡◌, ℕ, suc, ◌+◌, ◌<◌, ◌≤◌, Bool, true, false, nat_eq, if◌then◌else◌}
use Rattle.std.specs.Prelude.{List, [], ◌++◌, length, Option, is_some}
use Rattle.interference.specs.Net.{Net, IsVertex, degree_of, neighbour_of}
use Rattle.node_api.specs.Program.{Program, last_pulse_on}
use Rattle.node_api.specs.Run.{state_at}
use Rattle.wires.specs.declared.wire.Wire.{Wire}
use Rattle.wires.specs.Wires.{acks_of, payloads_of, payload_at}
use Rattle.wires.specs.Streams.{sent_pulse, sent_pulses}
use Rattle.alpha_core.specs.View.{Port, View, Node, bit, safes_at, none_waits, port_at}
use Rattle.link_rule.specs.Sent.{sends}
use Rattle.alpha_laws.specs.Position.{Position, start_at, moves, Follows}
use Rattle.alpha_laws.specs.Simulates.{taken_over}

-- the position of what a node at pulse p has emitted on a port, by whether it said safe and what it sends at p
abbrev pub emitted_to : {M : Type 0} → ℕ → ℕ → Bool → Option M → Position
emitted_to last p said sent = record {
  safes = p + bit said;
  paid = if said then false else is_some sent;
  closed =
      nat_eq p last;
}

-- a payload came after the last safe
abbrev pub paid_at : {M : Type 0} → Port M → Bool
paid_at port = if port.safe then (if port.early_safe then false else is_some port.early) else is_some port.present

-- the position of what a node at pulse p has taken at a port
abbrev pub taken_to : {M : Type 0} → ℕ → Port M → Position
taken_to p port = record { safes = safes_at p port; paid = paid_at port; closed = port.closed }

-- One port of a node at pulse p, with all that was emitted there and all that was taken there.
pub record PortKept {M : Type 0} (last : ℕ) (own other : ℕ → Option M) (p : ℕ) (said : Bool) (port : Port M)
    (emitted taken : List (Wire M)) : Type 0 where
  -- both lists follow their streams, up to where the port says
  pub emits : Follows own last start_at emitted
  pub emitted_at : moves start_at emitted ≡ emitted_to last p said (own p)
  pub takes : Follows other last start_at taken
  pub taken_at : moves start_at taken ≡ taken_to p port
  -- each payload taken was acknowledged, and each payload sent is acknowledged, unless the port waits
  pub acknowledges : acks_of emitted ≡ payloads_of taken
  pub acks_are : acks_of taken ≡ sent_pulses own p ++ (if port.waits then [] else sent_pulse p (own p))
  -- a port waits only for a payload that was sent, and only before safe is said, which is below the last pulse
  pub waiting : port.waits ≡ true → is_some (own p) ≡ true
  pub quiet : said ≡ true → port.waits ≡ false
  pub before_last : said ≡ true → p < last
  pub within : p ≤ last
  -- an early safe comes after the safe, and the slots hold the payloads of p and p + 1
  pub nested : port.early_safe ≡ true → port.safe ≡ true
  pub present : port.present ≡ payload_at p taken
  pub early : port.early ≡ payload_at (suc p) taken

abbrev pub KeptAt : {S M E : Type 0} → Program S M E → Net → ℕ → ℕ → ℕ → Bool → Port M → List (Wire M) →
    List (Wire M) → Type 0
KeptAt program net v i p said port emitted taken =
    PortKept (last_pulse_on program net) (sends program net v (neighbour_of net v i))
    (sends program net (neighbour_of net v i) v)
    p said port emitted taken

-- the ports of a view; `sent` and `taken` are the lists put on the links of v and taken from them, by port
pub record PortsKept {S M E : Type 0} (program : Program S M E) (net : Net) (v : ℕ) (view : View M) (sent taken : ℕ →
    List (Wire M)) : Type 0 where
  pub count : length view.ports ≡ degree_of net v
  pub within : view.pulse ≤ last_pulse_on program net
  pub before_last : view.said ≡ true → view.pulse < last_pulse_on program net
  pub each : (i : ℕ) → i < degree_of net v
      → KeptAt program net v i view.pulse view.said (port_at view i) (sent i ++ (port_at view i).out) (taken i)

-- A node keeps its links.
pub record NodeKept {S M E : Type 0} (program : Program S M E) (net : Net) (v : ℕ) (node : Node S M) (sent taken : ℕ →
    List (Wire M)) : Type 0 where
  pub ports : PortsKept program net v node.view sent taken
  -- it has said safe if no port waits, below the last pulse
  pub spoken : node.view.pulse < last_pulse_on program net → none_waits node.view.ports ≡ true → node.view.said ≡ true
  pub state : node.state ≡ state_at program net node.view.pulse v

-- All nodes keep their links, and what was put on each link is what was taken, followed by what it holds.
pub record AllKept {S M E : Type 0} (program : Program S M E) (net : Net) (nodes : ℕ →
    Node S M) (sent taken held : ℕ → ℕ → List (Wire M)) : Type 0 where
  pub each : (v : ℕ) → IsVertex net v → NodeKept program net v (nodes v) (sent v) (taken v)
  pub splits : (v i : ℕ) → IsVertex net v → i < degree_of net v → taken_over net taken v i ++ held v i ≡ sent v i
