use Rattle.std.proofs.Common.{ap, ◌∙◌}
use Rattle.colour_rules.specs.Node.{Node}
use Rattle.colour_rules.proofs.Greets.{greets}
use Rattle.colour_rules.proofs.node.ColourNode.greet.Goals as goal

pub returns : goal.returns
returns c =
    greets c.args.self.now c.new.result c.args.out.now _ (c.new.ensures.number ∙ ap (λ (node : Node). node.id) c.self.view_is)
    c.requires c.broadcast.ensures.sent
