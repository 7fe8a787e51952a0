use Rattle.std.proofs.Common.{◌≤◌, length, ap, ◌∙◌, rules}
use Rattle.std.specs.Prelude.{map}
use Rattle.colour_rules.specs.Node.{Node}
use Rattle.colour_rules.specs.Program.{tells_chosen}
use Rattle.node_api.proofs.Outboxes.{told-all}
use Rattle.colour_rules.proofs.node.ColourNode.tell_merged.Goals as goal

pub returns : goal.returns
returns c =
    let past : length c.self.inside.roles.items ≤ c.loop-port.port = search rules in
    told-all c.loop-port.invariant past ∙ ap (λ (node : Node). map (tells_chosen c.args.forest node.merged) node.roles) c.self.view_is
