use Rattle.std.proofs.Common.{map, ◌∷◌}
use Rattle.crossbeam_deque.specs.Handles.{view, worker_view}
use Rattle.pool.proofs.Out.{turned}
use Rattle.pool.proofs.looks.turn_in_hand.Goals as goal

pub invariant_of-state : goal.invariant_of-state
invariant_of-state g c =
    let old = c.args.state.now in
    record {
      shares = old.shares;
      some = old.some;
      out = turned (λ b. g.T.Task.number_of b.value) (worker_view old.own ∷ map (λ g'. view g'.pass) old.passes.items) old.task c.in-Some.task c.turn.new.task
          (map (λ b. g.T.Task.number_of b.value) old.finished.items) c.in-Some.is c.turn.ensures.number old.out;
    }
