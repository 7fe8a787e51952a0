use Rattle.event_rule.proofs.Short.{few-events}
use Rattle.event_rule.proofs.laws.runs_are_short.Goals as goal

pub returns : goal.returns
returns g c = record { law = λ program laws net ok short. few-events program net ok short }
