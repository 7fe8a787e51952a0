use Rattle.alpha_laws.proofs.Runs.{runs}
use Rattle.alpha_laws.proofs.Whole.{has_ended}
use Rattle.alpha_laws.proofs.laws.whole_networks_have_ended.Goals as goal

pub returns : goal.returns
returns g c = record {
  law = λ program laws net ok nodes sent taken held sim splits whole. has_ended ok sim splits whole (runs program laws net ok);
}
