-- When a node fits its links: the lists put on each, and the lists taken from each.
use Rattle.std.specs.Prelude.{◌≡◌, ◌↔◌, ℕ, suc, ◌<◌, Bool, IsTrue, nat_eq, if◌then◌else◌}
use Rattle.std.specs.Prelude.{List, [], ◌∷◌, ◌++◌, length, Contains, Option, IsSome}
use Rattle.interference.specs.Net.{Net, degree_of, neighbour_of}
use Rattle.node_api.specs.Program.{Program, last_pulse_on}
use Rattle.node_api.specs.Run.{state_at}
use Rattle.wires.specs.declared.wire.Wire.{Wire}
use Rattle.wires.specs.declared.wire.Wire.TheVariants.{Safe, Close}
use Rattle.wires.specs.Wires.{data_of, acks_of, payloads_of, payload_at, safes_of}
use Rattle.wires.specs.Streams.{payload_wire, rounds, Legal}
use Rattle.alpha_core.specs.View.{Port, Node, safes_at, none_waits, port_at}
use Rattle.link_rule.specs.Sent.{sends}

-- what stands of the stream of one direction while its sender is at pulse p: all of the pulses before, the payload of p
-- if there is one, then the safe of p exactly if it was said, then Close exactly if p is the last pulse
abbrev pub stream_up_to : {M : Type 0} → ℕ → (ℕ → Option M) → ℕ → Bool → List (Wire M)
stream_up_to last sends p said =
    rounds sends p
    ++ (payload_wire p (sends p)
    ++ ((if said then Safe p ∷ [] else [])
    ++ (if nat_eq p last then Close ∷ [] else [])))

-- Points (ii) to (v) of fitting, for one port of a node at pulse p. Over the port the synchronous run sends `own` and
-- brings `other`; `emitted` is all that the node has emitted there, and `taken` all that it has taken there.
pub record PortFits {M : Type 0} (last : ℕ) (own other : ℕ → Option M) (p : ℕ) (said : Bool) (port : Port M)
    (emitted taken : List (Wire M)) : Type 0 where
  -- (ii) The emitted list is legal; without acknowledgements it is the stream up to this pulse.
  pub emitted_legal : Legal last own other emitted
  pub emitted_stream : data_of emitted ≡ stream_up_to last own p said
  -- (iii) The acknowledgements emitted are the pulses of the payloads taken, in order.
  pub acknowledges : acks_of emitted ≡ payloads_of taken
  -- (iv) The taken list is legal. It has a safe for each pulse below p, for p if the port is marked safe, and for p + 1
  -- if it is marked early safe, which it is only if it is marked safe.
  pub taken_legal : Legal last other own taken
  pub taken_safes : safes_of taken ≡ safes_at p port
  pub early_after_safe : IsTrue port.early_safe → IsTrue port.safe
  -- Its payloads of p and of p + 1 are those that the port keeps, and it has Close exactly if the port is closed.
  pub taken_present : payload_at p taken ≡ port.present
  pub taken_early : payload_at (suc p) taken ≡ port.early
  pub taken_close : Contains taken Close ↔ IsTrue port.closed
  -- The port waits exactly if a payload of p is sent over it whose acknowledgement isn't in the taken list.
  pub waits : IsTrue port.waits ↔ (IsSome (own p) × (Contains (acks_of taken) p → ⊥))
  -- (v) The taken list has the acknowledgement of each payload of a pulse below p.
  pub acknowledged : (q : ℕ) → q < p → IsSome (own q) → Contains (acks_of taken) q

-- Node v fits its links. `sent` and `taken` are the lists put on them and taken from them, by port.
pub record NodeFits {S M E : Type 0} (program : Program S M E) (net : Net) (v : ℕ) (node : Node S M)
    (sent taken : ℕ → List (Wire M)) : Type 0 where
  -- It has a port for each neighbour.
  pub count : length node.view.ports ≡ degree_of net v
  -- (i) Its program's state is that of the synchronous run at its pulse.
  pub state : node.state ≡ state_at program net node.view.pulse v
  -- (ii) to (v) Each port fits; the emitted list is what was put, followed by the out-list.
  pub ports : (i : ℕ) → i < degree_of net v
      → PortFits (last_pulse_on program net) (sends program net v (neighbour_of net v i))
      (sends program net (neighbour_of net v i) v)
      node.view.pulse node.view.said (port_at node.view i) (sent i ++ (port_at node.view i).out) (taken i)
  -- (v) It has said safe exactly if its pulse is below the last one and no port waits.
  pub said : IsTrue node.view.said ↔ ((node.view.pulse < last_pulse_on program net) ×
      IsTrue (none_waits node.view.ports))
