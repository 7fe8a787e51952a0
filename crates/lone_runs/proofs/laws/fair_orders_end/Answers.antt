use Rattle.std.proofs.Common.{[], arith, refl}
use Rattle.alpha_laws.proofs.Runs.{runs}
use Rattle.event_rule.specs.State.{start}
use Rattle.lone_runs.proofs.Fair.{ended}
use Rattle.lone_runs.proofs.laws.fair_orders_end.Goals as goal

pub returns : goal.returns
returns g c = record {
  law = λ program laws net ok orders last laps enough.
      ended program net ok (runs program laws net ok) orders [] (start program net) last refl laps (omega (arith, enough));
}
