use Rattle.alpha_laws.proofs.Runs.{runs}
use Rattle.event_rule.proofs.Maximal.{bounded, completes, counted, counted_whole, whole_counted}
use Rattle.event_rule.proofs.laws.runs_are_bounded.Goals as goal

pub returns : goal.returns
returns g c = record {
  counted = λ program laws net ok events state is. counted ok (runs program laws net ok) events state is;
  bounded = λ program laws net ok events state is.
      let made = runs program laws net ok in (
        bounded ok made events state is,
        (λ whole. whole_counted ok made events state is whole, λ many. counted_whole ok made events state is many),
      );
  completed = λ program laws net ok events state is capacity some. completes ok (runs program laws net ok) events state is capacity some;
}
