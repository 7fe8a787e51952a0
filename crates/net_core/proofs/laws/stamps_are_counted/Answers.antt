use Rattle.event_rule.proofs.Counted.{stamps-within, stamps-within-events}
use Rattle.net_core.proofs.laws.stamps_are_counted.Goals as goal

pub returns : goal.returns
returns g c = record {
  law = λ program net rows last is. stamps-within rows is.stamped;
  events = λ program laws net ok. stamps-within-events program net;
}
