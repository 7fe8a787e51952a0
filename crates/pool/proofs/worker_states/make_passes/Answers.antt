use Rattle.std.proofs.Common.{◌≡◌, ◌+◌, ◌-◌, [], map, refl, ap, ◌∙◌, arith}
use Rattle.std.proofs.lemmas.List.Elements.{All-push, All-same}
use Rattle.crossbeam_deque.specs.Handles.{view, worker_deque, worker_view}
use Rattle.deque_rule.specs.declared.ledger.Ledger.{Ledger}
use Rattle.deque_rule.specs.Ledgers.{AreOut, all_shares, ledger}
use Rattle.pool.proofs.Holds.{all_to, fresh_out}
use Rattle.deque_rule.proofs.Rule.{forks}
use Rattle.pool.specs.Passes.{deques_of}
use Rattle.pool.proofs.worker_states.make_passes.Goals as goal

pub split_off-requires-clause-rule : goal.split_off-requires-clause-rule
split_off-requires-clause-rule g c = record {
  forks = forks;
  one = λ v. refl;
}

pub split_off-requires-clause-shares : goal.split_off-requires-clause-shares
split_off-requires-clause-shares g c k d lt =
    let s = ap (λ (v : Ledger). v.shares) (c.loop.invariant.left k d lt) in
    let f = c.requires.few in
    let n = c.len-count.ensures in
    omega arith

pub push_reserved-requires : goal.push_reserved-requires
push_reserved-requires g c = omega (arith, c.loop.invariant.rows, c.loop.invariant.room, c.loop-test.true, c.len-count.ensures)

pub loop-preserved : goal.loop-preserved
loop-preserved g c =
    let inv = c.loop.invariant in
    let said = c.in_ok-left.ensures in
    let more = c.push_reserved.ensures in
    let before = ledger (all_shares - 1 - c.loop.counter) [] [] in
    let fewer : all_shares - 1 - c.loop.counter - 1 ≡ all_shares - 1 - (c.loop.counter + 1) = omega arith in
    record {
      owns = said.owns ∙ inv.owns;
      left = all_to worker_view worker_view (λ v. ledger (v.shares - 1) v.pushed v.taken) c.loop.owns.items _ before _ said.left
          (ap (λ k. ledger k [] []) fewer) inv.left;
      room = omega (arith, more.capacity, inv.room);
      rows = let n = more.len in let i = inv.rows in omega arith;
      passes = All-same (λ row. deques_of row.items ≡ map worker_deque c.args.owns.items) _ _ more.items
          (All-push (λ row. deques_of row.items ≡ map worker_deque c.args.owns.items) c.loop.rows.items _ inv.passes
          (said.passes ∙ inv.owns));
      fresh = All-same (λ row. AreOut (map (λ g'. view g'.pass) row.items) []) _ _ more.items
          (All-push (λ row. AreOut (map (λ g'. view g'.pass) row.items) []) c.loop.rows.items _ inv.fresh
          (fresh_out (λ g'. view g'.pass) 1 _
          (all_to worker_view (λ g'. view g'.pass) (λ v. ledger 1 [] []) c.loop.owns.items _ before (ledger 1 [] []) said.right refl inv.left)));
    }

pub returns-clause-left : goal.returns-clause-left
returns-clause-left g c k d lt =
    let n = c.len-count.ensures in
    c.loop.invariant.left k d lt ∙ ap (λ m. ledger (all_shares - 1 - m) [] []) (omega arith)
