use Rattle.outcomes.proofs.Whole.{complete_run}
use Rattle.outcomes.proofs.laws.whole_outcomes_are_complete.Goals as goal

pub returns : goal.returns
returns g c = record { law = λ program net ok capacity transcript outcome is whole. complete_run program net ok capacity transcript outcome is whole }
