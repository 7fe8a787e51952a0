use Rattle.alpha_laws.proofs.Runs.{runs}
use Rattle.event_rule.proofs.Existing.{exist, turn_of}
use Rattle.event_rule.proofs.Orders.{orders}
use Rattle.event_rule.proofs.Laps.{few}
use Rattle.event_rule.proofs.laws.thorough_laps_end.Goals as goal

pub returns : goal.returns
returns g c = record {
  ends = λ program laws net ok. few ok (runs program laws net ok);
  exist = λ program laws net ok. exist ok (runs program laws net ok);
  turns = λ program laws net ok. turn_of ok (runs program laws net ok);
  orders = orders;
}
