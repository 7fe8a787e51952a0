use Rattle.std.proofs.Common.{◌≡◌, ◌≤◌, ◌<◌, ℕ, false, slice_index_or}
use Rattle.forests.specs.declared.numbering.Role.TheVariants.{Unknown}
use Rattle.colour_rules.specs.Table.{is_due}
use Rattle.colour_rules.proofs.node.ColourNode.none_due.Given as goal

abbrev pub invariant-loop-port : goal.invariant-loop-port
invariant-loop-port l = (port : ℕ) → l.fn.from ≤ port → port < l.port → is_due l.fn.phase (slice_index_or l.fn.self.roles port Unknown) ≡ false
