use Rattle.colour_rules.proofs.KeptPorts.{keeps}
use Rattle.colour_rules.proofs.laws.ports_are_kept.Goals as goal

pub returns : goal.returns
returns c = keeps
