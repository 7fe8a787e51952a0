-- The rounds of the colouring are a node program.
use Rattle.std.proofs.Common.{sym, ◌∙◌}
use Rattle.std.specs.Prelude.{None}
use Rattle.interference.specs.Net.{neighbours}
use Rattle.node_api.specs.Laws.{IsProgram}
use Rattle.colour_rules.specs.Program.{colouring}
use Rattle.colour_rules.proofs.KeptPorts.{keeps}
use Rattle.node_api.proofs.Outboxes.{same-for_all}
use Rattle.colour_laws.proofs.Forests.{has_forest, has_start}
use Rattle.colour_laws.proofs.Starts.{fine_all, colour_at_last}

pub rounds_are_program : IsProgram colouring
rounds_are_program = record {
  keeps_ports = keeps;
  accepts = λ net ok p v is_vertex below. fine_all net ok (has_forest net ok) (has_start net ok) p below v is_vertex;
  silent = λ net ok v is_vertex. (colour_at_last net ok (has_forest net ok) (has_start net ok) v is_vertex).1 ∙ sym (same-for_all None (neighbours net v));
}
