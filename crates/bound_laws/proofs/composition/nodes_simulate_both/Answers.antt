use Rattle.bound_laws.proofs.Simulating.{simulate_both}
use Rattle.bound_laws.proofs.composition.nodes_simulate_both.Goals as goal

pub returns : goal.returns
returns g c = record { law = λ first sequel laws net ok nodes sent taken is. simulate_both first sequel laws net ok nodes sent taken is }
