-- The pulses at which the node waits are idle, and they begin at the next pulse at the latest.
use Rattle.std.proofs.Common.{◌≡◌, ◌≤◌, Ok, arith, subst}
use Rattle.node_api.specs.Boxes.{nothing}
use Rattle.colour_rules.specs.Node.{Node, ports}
use Rattle.colour_rules.specs.Program.{next}
use Rattle.colour_rules.proofs.Idling.{idle-waiting}
use Rattle.colour_program.proofs.colouring.ColouringNodeProgram.rests_until.Goals as goal

pub returns-then-self-saturating_add : goal.returns-then-self-saturating_add
returns-then-self-saturating_add c = record {
  rests = λ q after before.
      let from : c.self.inside.idle.from ≤ q = omega (arith, c.if-self-saturating_add.true, c.saturating_add.ensures) in
      subst (λ (node : Node). next node q (nothing (ports node)) ≡ Ok (node, nothing (ports node))) c.self.view_is
      (idle-waiting _ c.self.inside.idle c.self.invariant q from before);
}
