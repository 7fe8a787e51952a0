use Rattle.std.proofs.Common.{◌∙◌}
use Rattle.alpha_core.proofs.PortRows.{ports-within, seen}
use Rattle.alpha_core.proofs.ports.Ports.all_put.Goals as goal

pub returns : goal.returns
returns g c = record { put = c.is_empty.ensures.empty ∙ ports-within 0 c.self.invariant (seen c.self.view_is) }
