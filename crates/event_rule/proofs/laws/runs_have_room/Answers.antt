use Rattle.alpha_laws.proofs.Runs.{runs}
use Rattle.event_rule.proofs.Room.{have_room}
use Rattle.event_rule.proofs.laws.runs_have_room.Goals as goal

pub returns : goal.returns
returns g c = record {
  law = λ program laws net ok events state is capacity some. have_room ok (runs program laws net ok) capacity some events state is;
}
