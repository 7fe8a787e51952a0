use Rattle.outcomes.specs.Outcome.{node_in, put_by, taken_by}
use Rattle.bound_laws.proofs.Apart.{apart}
use Rattle.bound_laws.proofs.laws.nodes_are_at_most_their_links_apart.Goals as goal

pub returns : goal.returns
returns g c = record {
  nodes = λ program net ok nodes sent taken is. apart program net ok nodes sent taken is;
  outcomes = λ program net ok capacity transcript outcome is.
      apart program net ok (node_in program net outcome) (put_by outcome) (taken_by net outcome) is.simulates;
}
