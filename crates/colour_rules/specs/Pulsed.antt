-- What a node is given at a pulse, and what it leaves.
use Rattle.std.specs.Prelude.{◌≡◌, ℕ, List, Option, length, Result, IfOk, OnErr}
use Rattle.node_api.specs.Boxes.{nothing}
use Rattle.node_api.specs.Program.{Matches}
use Rattle.node_api.specs.declared.program.Refused.{Refused}
use Rattle.colour_rules.specs.declared.idle.IdlePulses.{IdlePulses}
use Rattle.colour_rules.specs.declared.payload.Payload.{Payload}
use Rattle.colour_rules.specs.Idle.{IsIdle, IsWaiting}
use Rattle.colour_rules.specs.Node.{Node, ports}
use Rattle.colour_rules.specs.Program.{next}

-- an inbox with a slot for each port, and an outbox in which nothing is
pub record HasBoxes (node : Node) (slots box : List (Option Payload)) : Type 0 where
  pub inbox : length slots ≡ ports node
  pub out : box ≡ nothing (ports node)

-- What a pulse makes of a node and its outbox when this came: what the program says, or a refusal with both as before.
-- In the pulses that are returned the node does nothing.
pub record Pulsed (pulse : ℕ) (slots : List (Option Payload)) (old new : Node × List (Option Payload))
    (result : Result IdlePulses Refused) : Type 0 where
  pub answer : Matches result (next old.0 pulse slots) new
  pub idle : IfOk result (IsIdle new.0)
  pub waits : IfOk result (IsWaiting new.0)
  pub refused : OnErr result ((new.0 ≡ old.0) × (new.1 ≡ old.1))
