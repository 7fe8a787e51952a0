use Rattle.alpha_laws.proofs.Bounded.{bounded, counted_whole, whole_counted}
use Rattle.outcomes.specs.Outcome.{held_on, node_in, put_by, taken_by}
use Rattle.outcomes.proofs.Progress.{whole_from}
use Rattle.outcomes.proofs.Whole.{link_splits, whole_is}
use Rattle.outcomes.proofs.laws.outcomes_are_bounded.Goals as goal

pub returns : goal.returns
returns g c = record {
  law = λ program laws net ok capacity transcript outcome is.
      let nodes = node_in program net outcome in
      let put = put_by outcome in
      let taken = taken_by net outcome in
      let held = held_on outcome in
      let splits = link_splits program net ok capacity transcript outcome is in (
        bounded program net ok nodes put taken held is.simulates splits,
        (
          λ whole. whole_counted program net ok nodes put taken held is.simulates splits
              (whole_is program net ok capacity transcript outcome is whole),
          λ many. whole_from program net ok capacity transcript outcome is
              (counted_whole program net ok nodes put taken held is.simulates splits many),
        ),
      );
}
