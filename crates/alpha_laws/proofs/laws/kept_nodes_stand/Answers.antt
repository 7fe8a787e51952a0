use Rattle.alpha_laws.proofs.Runs.{runs}
use Rattle.alpha_laws.proofs.Stands.{stands}
use Rattle.alpha_laws.proofs.laws.kept_nodes_stand.Goals as goal

pub returns : goal.returns
returns g c = record {
  law = λ program laws net ok v node sent taken vertex kept legal. stands (runs program laws net ok) vertex kept legal;
}
