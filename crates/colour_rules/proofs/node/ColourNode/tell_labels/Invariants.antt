use Rattle.forests.specs.declared.numbering.Role.TheVariants.{Unknown}
use Rattle.colour_rules.specs.Program.{tells_label}
use Rattle.node_api.proofs.Outboxes.{Told}
use Rattle.colour_rules.proofs.node.ColourNode.tell_labels.Given as goal

abbrev pub invariant-loop-port : goal.invariant-loop-port
invariant-loop-port l = Told tells_label Unknown l.self-inside.roles.items l.port l.out
