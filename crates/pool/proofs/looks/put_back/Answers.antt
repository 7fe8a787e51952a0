use Rattle.std.proofs.Common.{map, sym, ◌∙◌, arith, ◌∷◌}
use Rattle.crossbeam_deque.specs.Handles.{view, worker_view}
use Rattle.pool.proofs.Out.{finished}
use Rattle.pool.proofs.InHand.{gave_back}
use Rattle.pool.proofs.looks.put_back.Goals as goal

pub invariant_of-state-then-len-capacity : goal.invariant_of-state-then-len-capacity
invariant_of-state-then-len-capacity g c =
    let old = c.args.state.now in
    record {
      shares = old.shares;
      some = old.some;
      out = finished (λ b. g.T.Task.number_of b.value) (worker_view old.own ∷ map (λ g'. view g'.pass) old.passes.items) old.task c.take.new.self c.in-Some.task
          old.finished.items c.push_reserved.new.self.items (sym c.take.ensures.value ∙ c.in-Some.is) c.take.ensures.after c.push_reserved.ensures.items
          old.out;
    }

pub invariant_of-state-2 : goal.invariant_of-state-2
invariant_of-state-2 g c =
    let old = c.args.state.now in
    let back = c.give_back in
    let p = gave_back (λ b. g.T.Task.number_of b.value) (worker_view old.own) (worker_view back.new.own) (map (λ g'. view g'.pass) old.passes.items) old.task
    back.result c.in-Some.task (map (λ b. g.T.Task.number_of b.value) old.finished.items) old.out (sym c.take.ensures.value ∙ c.in-Some.is) back.ensures.none
    back.ensures.some in
    record {
      shares = let s = old.shares in let q = p.0 in omega arith;
      some = let s = old.some in let q = p.0 in omega arith;
      out = p.1;
    }
