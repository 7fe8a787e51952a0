use Rattle.std.proofs.Common.{◌≡◌, ◌+◌, ◌-◌, ◌<◌, ◌∙◌, length, map, get_or, sym, arith}
use Rattle.crossbeam_deque.specs.Handles.{worker_deque, worker_view}
use Rattle.deque_rule.specs.Deques.{deque_of}
use Rattle.deque_rule.specs.Ledgers.{all_shares, shares_of}
use Rattle.pool.specs.Passes.{deques_of}
use Rattle.pool.proofs.Views.{as_many, carried}
use Rattle.pool.proofs.gathering.gather_boxes.Goals as goal

pub absorb_row-requires-clause-deques : goal.absorb_row-requires-clause-deques
absorb_row-requires-clause-deques g c = c.requires.deques ∙ sym c.in_ok-owns.ensures.owns

pub absorb_row-requires-clause-some : goal.absorb_row-requires-clause-some
absorb_row-requires-clause-some g c =
    carried (λ d. shares_of (worker_view d.own)) (λ o. shares_of (worker_view o)) (λ n. 0 < n) c.args.done.items _ c.in_ok-owns.ensures.shares
    (λ k d lt. (get_or c.args.done.items k d).some)

pub absorb_rows-requires-clause-deques : goal.absorb_rows-requires-clause-deques
absorb_rows-requires-clause-deques g c =
    carried (λ d. deques_of d.passes.items) (λ row. deques_of row.items)
    (λ ids. ids ≡ map worker_deque c.absorb_row.new.owns.items) c.args.done.items _ c.in_ok-owns.ensures.rows
    (λ k d lt. c.requires.passes k d lt ∙ c.requires.deques ∙ sym c.in_ok-owns.ensures.owns ∙ sym c.absorb_row.ensures.deques)

-- each deque's owner has all shares but one for what was dealt and one for each worker, and these come back
pub drain_all-requires : goal.drain_all-requires
drain_all-requires g c =
    let dealt = c.args.dealt in
    let left = all_shares - 1 - length dealt.items in
    let first = carried (λ d. shares_of (worker_view d.own)) (λ o. shares_of (worker_view o)) (λ m. m ≡ left) c.args.done.items _
    c.in_ok-owns.ensures.shares (λ i x within.
    let w = get_or c.args.done.items i x in
    let s = w.shares in
    let m = as_many (λ g'. deque_of g'.pass) (λ g'. deque_of g'.pass) dealt.items w.passes.items (c.requires.passes i x within) in
    omega (arith, w.passes.ok.0)) in
    let rows = as_many (λ d. deques_of d.passes.items) (λ row. deques_of row.items) c.args.done.items _
    c.in_ok-owns.ensures.rows in
    let many = as_many (λ d. worker_deque d.own) (λ g'. deque_of g'.pass) c.args.done.items dealt.items c.requires.deques in
    let few = c.requires.few in
    record {
      shares = λ k d lt.
          let last = c.absorb_rows.ensures.shares (left + 1) (c.absorb_row.ensures.shares left first) k d lt in
          omega (arith, dealt.ok.0, c.in_ok-owns.rows.ok.0);
    }

pub returns : goal.returns
returns g c = record {
  once = λ numbers are h.
      let apart = c.in_ok-owns.ensures.out h in
      let row = c.absorb_row.ensures.taken h in
      let row' = c.absorb_row.ensures.pushed h in
      let rows = c.absorb_rows.ensures.taken h in
      let rows' = c.absorb_rows.ensures.pushed h in
      let dealt = are h in
      let none = dealt.0 in
      let these = dealt.1 in
      let drained = c.in_ok-drain_all.ensures.tasks h in
      omega arith;
}
