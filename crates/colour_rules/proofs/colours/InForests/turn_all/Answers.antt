-- The plan: forests below parents and then the others have turned (Turned.turned-both), so what is written down of all
-- are the next colours and those kept beside them.
use Rattle.std.specs.Prelude.{true}
use Rattle.std.specs.FinSet.{contains}
use Rattle.colour_rules.specs.InForests.{AreTurned}
use Rattle.colour_rules.specs.Program.{from_parent}
use Rattle.colour_rules.proofs.Turned.{all-kept, all-turned, turned-both}
use Rattle.colour_rules.proofs.colours.InForests.turn_all.Goals as goal
use Rattle.colour_rules.proofs.colours.InForests.turn_all.Goals.{After-turn_as_root}

turned : (c : After-turn_as_root) →
    AreTurned c.args.reduction c.args.id (λ f. from_parent f c.args.roles.now c.args.inbox.now.slots) (λ f. true) c.args.self.now c.turn_as_root.new.self
turned c =
    turned-both c.args.reduction c.args.id (λ f. from_parent f c.args.roles.now c.args.inbox.now.slots) (contains c.turn_as_child.new.heard)
    c.args.self.now c.turn_as_child.new.self c.turn_as_root.new.self c.turn_as_child.ensures.rest c.turn_as_child.ensures.turned
    c.turn_as_root.ensures.turned

pub returns-clause-colours : goal.returns-clause-colours
returns-clause-colours c =
    all-turned c.args.reduction c.args.id (λ f. from_parent f c.args.roles.now c.args.inbox.now.slots) c.args.self.now c.turn_as_root.new.self
    (turned (goal.at.returns-clause-colours c).After-turn_as_root)

pub returns-clause-before : goal.returns-clause-before
returns-clause-before c =
    all-kept c.args.reduction c.args.id (λ f. from_parent f c.args.roles.now c.args.inbox.now.slots) c.args.self.now c.turn_as_root.new.self
    (turned (goal.at.returns-clause-before c).After-turn_as_root)
