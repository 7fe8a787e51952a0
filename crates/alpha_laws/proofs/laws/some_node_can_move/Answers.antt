use Rattle.alpha_laws.proofs.Moves.{moves}
use Rattle.alpha_laws.proofs.laws.some_node_can_move.Goals as goal

pub returns : goal.returns
returns g c = record { law = λ program laws net ok nodes sent taken held sim splits capacity some. moves ok sim splits capacity some }
