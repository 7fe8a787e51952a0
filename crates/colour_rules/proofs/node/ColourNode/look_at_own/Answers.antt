use Rattle.std.proofs.Common.{◌≡◌, subst}
use Rattle.std.specs.Prelude.{None}
use Rattle.colour_rules.specs.declared.phase.Phase.{Phase}
use Rattle.colour_rules.specs.Node.{IsPhase}
use Rattle.colour_rules.specs.Refusals.{first_refusal}
use Rattle.colour_rules.proofs.Bounds.{chosen-within}
use Rattle.colour_rules.proofs.node.ColourNode.look_at_own.Goals as goal

pub has_no_choice-requires-clause-forest : goal.has_no_choice-requires-clause-forest
has_no_choice-requires-clause-forest c = (subst (IsPhase c.args.self.now.sizes) c.in-Merge.is c.requires.real).0

pub has_no_choice-requires-clause-colours : goal.has_no_choice-requires-clause-colours
has_no_choice-requires-clause-colours c =
    chosen-within c.args.self.now c.in-Merge.forest c.in-Merge.step c.args.inbox.now.slots c.requires.inbox
    (subst (λ (phase : Phase). first_refusal c.args.self.now phase c.args.inbox.now.slots ≡ None) c.in-Merge.is c.requires.accepted)
