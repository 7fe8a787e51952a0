use Rattle.alpha_laws.proofs.Runs.{runs}
use Rattle.sync_rounds.specs.Spread.{spread}
use Rattle.sync_rounds.specs.SpreadLaws.{spread_laws}
use Rattle.event_rule.proofs.KeptRuns.{reached_simulates}
use Rattle.event_rule.proofs.Exactly.{runs-exactly}
use Rattle.plan_runs.proofs.coloured_runs.runs_of_the_greatest.Goals as goal

pub returns : goal.returns
returns c = record {
  simulate = λ last net ok events state is. reached_simulates ok (runs (spread last) (spread_laws last) net ok) state (events, is);
  exact = λ last net ok events. runs-exactly ok (runs (spread last) (spread_laws last) net ok) events;
}
