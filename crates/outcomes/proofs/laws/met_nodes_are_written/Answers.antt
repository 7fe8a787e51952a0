use Rattle.outcomes.proofs.MetNodes.{met_written}
use Rattle.outcomes.proofs.laws.met_nodes_are_written.Goals as goal

pub returns : goal.returns
returns g c = record {
  law = λ program laws net ok nodes counters puts takens held wrote met. met_written program net ok nodes counters puts takens held wrote met;
}
