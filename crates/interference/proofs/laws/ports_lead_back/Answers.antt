use Rattle.interference.proofs.Neighbours.{at-back_port, back-of-back_port}
use Rattle.interference.proofs.laws.ports_lead_back.Goals as goal

pub returns-clause-back : goal.returns-clause-back
returns-clause-back c = at-back_port

pub returns-clause-again : goal.returns-clause-again
returns-clause-again c = back-of-back_port
