use Rattle.forests.specs.declared.numbering.Role.TheVariants.{Unknown}
use Rattle.colour_rules.specs.Program.{tells_chosen}
use Rattle.node_api.proofs.Outboxes.{Told}
use Rattle.colour_rules.proofs.node.ColourNode.tell_merged.Given as goal

abbrev pub invariant-loop-port : goal.invariant-loop-port
invariant-loop-port l = Told (tells_chosen l.forest l.self-inside.merged) Unknown l.self-inside.roles.items l.port l.out
