use Rattle.std.proofs.Common.{refl}
use Rattle.std.specs.Prelude.{◌≡◌}
use Rattle.node_api.specs.Run as sync
use Rattle.alpha_laws.specs.Counts.{events_of_run}
use Rattle.sync_rounds.specs.Spread.{spread}
use Rattle.event_rule.specs.Step.{run}
use Rattle.plan_runs.specs.Small.{EndsWhole, edge, small_run}
use Rattle.plan_runs.proofs.Edge.{edge_is_network, whole_if}
use Rattle.plan_runs.proofs.coloured_runs.a_small_run_halts.Goals as goal

most : events_of_run (spread 1) edge ≡ 18
unfolding sync.node_at
most = refl

whole : EndsWhole
whole = whole_if (spread 1) (run (spread 1) edge small_run) (refl, refl, refl, refl)

pub returns : goal.returns
returns c = record { network = edge_is_network; accepted = refl; ends = (refl, refl); most = most; many = refl; whole = whole }
