use Rattle.alpha_laws.proofs.Runs.{runs}
use Rattle.event_rule.proofs.Exactly.{steps-exactly}
use Rattle.event_rule.proofs.KeptRuns.{reached_kept}
use Rattle.event_machine.proofs.laws.steps_are_exact.Goals as goal

pub returns : goal.returns
returns g c = record {
  law = λ program laws net ok state reached event.
      steps-exactly ok (runs program laws net ok) state (reached_kept ok (runs program laws net ok) state reached) event;
}
