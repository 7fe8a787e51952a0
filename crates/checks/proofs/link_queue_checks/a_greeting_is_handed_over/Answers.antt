use Rattle.std.proofs.Common.{[], ◌∷◌, subst, sym}
use Rattle.wires.specs.declared.wire.Wire.TheVariants.{Payload, Safe}
use Rattle.link_rule.specs.Legal.{IsLegalOn, name_of}
use Rattle.colour_rules.specs.Program.{colouring}
use Rattle.colour_rules.specs.declared.payload.Payload.TheVariants.{Hello}
use Rattle.checks.specs.SmallNets.{pair_net}
use Rattle.checks.proofs.Greeting.{hello_legal}
use Rattle.checks.proofs.link_queue_checks.a_greeting_is_handed_over.Goals as goal

pub one_after_another-requires-clause-legal : goal.one_after_another-requires-clause-legal
one_after_another-requires-clause-legal g c κs within =
    subst (λ n. IsLegalOn colouring (name_of pair_net 1 0) (Payload 0 (Hello n) ∷ Safe 0 ∷ [])) (sym c.new.ensures.number) hello_legal
