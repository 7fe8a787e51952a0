use Rattle.outcomes.proofs.MetStamps.{are_within}
use Rattle.outcomes.proofs.laws.met_stamps_are_bounded.Goals as goal

pub returns : goal.returns
returns g c = record {
  law = λ program laws net ok nodes counters puts takens held reacted wrote met.
      are_within program laws net ok nodes counters puts takens held reacted wrote met;
}
