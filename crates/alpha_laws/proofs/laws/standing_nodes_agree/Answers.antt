use Rattle.alpha_laws.proofs.Agreeing.{standing_agree}
use Rattle.alpha_laws.proofs.laws.standing_nodes_agree.Goals as goal

pub returns : goal.returns
returns g c = record { law = λ program net ok. standing_agree ok }
