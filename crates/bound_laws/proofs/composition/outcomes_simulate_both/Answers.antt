use Rattle.outcomes.specs.Outcome.{node_in, put_by, taken_by}
use Rattle.followed.specs.Followed.{followed}
use Rattle.bound_laws.proofs.Simulating.{simulate_both}
use Rattle.bound_laws.proofs.composition.outcomes_simulate_both.Goals as goal

pub returns : goal.returns
returns g c = record {
  law = λ first sequel laws net ok capacity transcript outcome is.
      simulate_both first sequel laws net ok (node_in (followed first sequel) net outcome) (put_by outcome) (taken_by net outcome) is.simulates;
}
