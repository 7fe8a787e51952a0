use Rattle.outcomes.proofs.Asides.{met_simulate}
use Rattle.outcomes.proofs.laws.met_nodes_simulate.Goals as goal

pub returns : goal.returns
returns g c = record {
  law = λ program laws net ok nodes asides puts takens held met. met_simulate program laws net ok nodes asides puts takens held met;
}
