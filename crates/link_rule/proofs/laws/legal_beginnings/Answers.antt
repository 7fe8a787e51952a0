use Rattle.wires.proofs.Wires.{legal-front}
use Rattle.link_rule.proofs.laws.legal_beginnings.Goals as goal

pub returns : goal.returns
returns g c = record { law = legal-front }
