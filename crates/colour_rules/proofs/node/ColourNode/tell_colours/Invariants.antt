use Rattle.forests.specs.declared.numbering.Role.TheVariants.{Unknown}
use Rattle.colour_rules.specs.InForests.{colours_in}
use Rattle.colour_rules.specs.Program.{tells_colour}
use Rattle.node_api.proofs.Outboxes.{Told}
use Rattle.colour_rules.proofs.node.ColourNode.tell_colours.Given as goal

abbrev pub invariant-loop-port : goal.invariant-loop-port
invariant-loop-port l = Told (tells_colour (colours_in l.self-inside.id l.self-inside.colours)) Unknown l.self-inside.roles.items l.port l.out
