use Rattle.std.proofs.Common.{◌∷◌, map, sym, ◌∙◌}
use Rattle.crossbeam_deque.specs.Handles.{view, worker_view}
use Rattle.pool.proofs.Out.{finished}
use Rattle.checks.proofs.deque_checks.finish.Goals as goal

pub invariant_of-state : goal.invariant_of-state
invariant_of-state c =
    let old = c.args.state.now in
    record {
      shares = old.shares;
      some = old.some;
      out = finished (λ b. b.value.number) (worker_view old.own ∷ map (λ g'. view g'.pass) old.passes.items) old.task c.take.new.self c.in-Some.task
          old.finished.items c.push_reserved.new.self.items (sym c.take.ensures.value ∙ c.in-Some.is) c.take.ensures.after c.push_reserved.ensures.items
          old.out;
    }
