use Rattle.bound_laws.proofs.Composed.{composed}
use Rattle.bound_laws.proofs.composition.runs_are_composed.Goals as goal

pub returns : goal.returns
returns g c = record { law = λ first sequel laws net ok. composed first sequel laws net ok }
