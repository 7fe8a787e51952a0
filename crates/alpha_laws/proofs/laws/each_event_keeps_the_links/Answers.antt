use Rattle.alpha_laws.proofs.Runs.{runs}
use Rattle.alpha_laws.proofs.NodeLaws.{starts_keep, puts_keep, takes_keep, pulses_keep}
use Rattle.alpha_laws.proofs.laws.each_event_keeps_the_links.Goals as goal

pub returns : goal.returns
returns g c = record {
  starts = λ program laws net ok. starts_keep program net (runs program laws net ok);
  puts = λ program net. puts_keep program net;
  takes = λ program net. takes_keep program net;
  pulses = λ program laws net ok. pulses_keep program net (runs program laws net ok);
}
