use Rattle.forests.specs.declared.numbering.Role.TheVariants.{Unknown}
use Rattle.node_api.proofs.Outboxes.{Told}
use Rattle.matching.specs.Knowing.{tells_free}
use Rattle.matching.proofs.node.tell_free.Given as goal

abbrev pub invariant-loop-port : goal.invariant-loop-port
invariant-loop-port l = Told (tells_free l.forest) Unknown l.node.roles l.port l.out
