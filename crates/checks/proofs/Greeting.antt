-- The greeting of the colouring is legal: vertex 1 of the network of two says its identifier, and is safe then.
use Rattle.std.proofs.Common.{◌≡◌, [], ◌∷◌, Some, refl, arith}
use Rattle.node_api.specs.Program.{last_pulse_on}
use Rattle.node_api.specs.Run.{node_at}
use Rattle.wires.specs.declared.wire.Wire.TheVariants.{Payload, Safe}
use Rattle.link_rule.specs.Sent.{sends}
use Rattle.link_rule.specs.Legal.{IsLegalOn, name_of}
use Rattle.colour_rules.specs.Program.{colouring}
use Rattle.colour_rules.specs.declared.payload.Payload.TheVariants.{Hello}
use Rattle.checks.specs.SmallNets.{pair_net}
use Rattle.checks.proofs.SmallNets.{first_round}

greets : sends colouring pair_net 1 2 0 ≡ Some (Hello 1)
unfolding node_at
greets = refl

pub hello_legal : IsLegalOn colouring (name_of pair_net 1 0) (Payload 0 (Hello 1) ∷ Safe 0 ∷ [])
hello_legal =
    first_round (last_pulse_on colouring pair_net) (sends colouring pair_net 1 2) (sends colouring pair_net 2 1) (Hello 1) (omega arith) greets
