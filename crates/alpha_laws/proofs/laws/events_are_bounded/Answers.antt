use Rattle.alpha_laws.proofs.Bounded.{bounded, counted_whole, whole_counted}
use Rattle.alpha_laws.proofs.laws.events_are_bounded.Goals as goal

pub returns : goal.returns
returns g c = record {
  law = λ program laws net ok nodes sent taken held sim splits. (
    bounded program net ok nodes sent taken held sim splits,
    (
      λ whole. whole_counted program net ok nodes sent taken held sim splits whole,
      λ many. counted_whole program net ok nodes sent taken held sim splits many,
    ),
  );
}
