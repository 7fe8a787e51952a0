use Rattle.alpha_laws.proofs.Runs.{runs}
use Rattle.outcomes.proofs.Start.{starts, whole}
use Rattle.outcomes.proofs.laws.starts_are_outcomes.Goals as goal

pub returns : goal.returns
returns g c = record {
  law = λ program laws net ok. starts program net ok (runs program laws net ok);
  whole = λ program laws net ok. whole program net ok (runs program laws net ok);
}
