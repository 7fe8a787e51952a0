use Rattle.alpha_laws.proofs.PulseCounts.{pulses_counted}
use Rattle.outcomes.specs.Outcome.{put_by}
use Rattle.outcomes.proofs.Counts.{counted}
use Rattle.outcomes.proofs.Whole.{complete_run}
use Rattle.outcomes.proofs.laws.whole_outcomes_are_counted.Goals as goal

pub returns : goal.returns
returns g c = record {
  law = λ program net ok capacity transcript outcome is whole. counted program net ok capacity transcript outcome is whole;
  pulses = λ program net ok capacity transcript outcome is whole q lt.
      pulses_counted program net ok (put_by outcome) (complete_run program net ok capacity transcript outcome is whole).complete q lt;
}
