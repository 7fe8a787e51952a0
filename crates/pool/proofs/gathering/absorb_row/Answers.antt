use Rattle.std.proofs.Common.{◌≡◌, ◌+◌, ◌<◌, length, map, get_or, set, suc, ap, refl, sym, subst, ◌∙◌, arith}
use Rattle.std.proofs.lemmas.List.{length-map, get_or-map, take_all}
use Rattle.std.proofs.lemmas.List.Elements.{All-set}
use Rattle.crossbeam_deque.specs.Handles.{view, worker_deque, worker_view}
use Rattle.deque_rule.specs.declared.ledger.Ledger.{Ledger}
use Rattle.deque_rule.specs.Ledgers.{shares_of, total, weigh}
use Rattle.deque_rule.specs.Deques.{deque_of}
use Rattle.deque_rule.proofs.Rule.{merges, weigh-append}
use Rattle.pool.proofs.Views.{as_many, map_change, total_change}
use Rattle.pool.proofs.Absorbing.{IsUpTo, all_up_to, set_up_to, up_to_all}
use Rattle.pool.proofs.Holds.{holds_at, length_more, popped_front}
use Rattle.pool.proofs.Pushed.{total_more}
use Rattle.pool.proofs.gathering.absorb_row.Goals as goal

pub each-init : goal.each-init
each-init g c =
    let owns = c.args.owns.now.items in
    let many = as_many worker_deque (λ g'. deque_of g'.pass) owns c.args.row.items c.requires.deques in
    record {
      deques = refl;
      front = c.requires.deques ∙ sym (take_all _ (map worker_deque owns) (omega (arith, many, length-map owns worker_deque)));
      few = omega (arith, many);
      some = c.requires.some;
      shares = λ p all. up_to_all p (length c.args.row.items) worker_view owns (omega (arith, many)) all;
      pushed = λ h. refl;
      taken = λ h. refl;
    }

pub absorb-requires-clause-table : goal.absorb-requires-clause-table
absorb-requires-clause-table g c =
    let inv = c.each.invariant in
    let own = c.index_mut.result.now in
    let ids = map worker_deque c.args.owns.now.items in
    let at = c.len-at.result in
    let f = popped_front (λ g'. deque_of g'.pass) c.each.row.items c.pop.new.self.items c.in-Some.steal_pass ids (worker_deque own) c.in-Some.ensures.items
    inv.front (omega (arith, inv.few, length-map c.args.owns.now.items worker_deque)) in
    let n = as_many worker_deque worker_deque c.args.owns.now.items c.each.owns.items inv.deques in
    let i : at ≡ length c.pop.new.self.items = (let l = c.len-at.ensures in omega (arith, c.pop.new.self.ok.0)) in
    let lt : at < length c.each.owns.items = (let w = f.0 in omega (arith, inv.few, n)) in
    let there : worker_deque own ≡ get_or (map worker_deque c.each.owns.items) at (worker_deque own) =
    ap worker_deque c.index_mut.ensures.value ∙ sym (get_or-map worker_deque c.each.owns.items at own (worker_deque own) lt) in
    let same : deque_of c.in-Some.steal_pass.pass ≡ worker_deque own =
    f.1.0 ∙ ap (λ k. get_or ids k (worker_deque own)) (sym i) ∙ sym (there ∙ ap (λ l. get_or l at (worker_deque own)) inv.deques) in
    (ap (λ (x : _ × _). x.0) same, ap (λ (x : _ × _). x.1) same, c.in-Some.steal_pass.rests.0, c.in-Some.steal_pass.rests.1)

pub absorb-requires-clause-rule : goal.absorb-requires-clause-rule
absorb-requires-clause-rule g c =
    let inv = c.each.invariant in
    let many = as_many worker_deque worker_deque c.args.owns.now.items c.each.owns.items inv.deques in
    let n = length_more _ _ _ c.in-Some.ensures.items in
    let lt : c.len-at.result < length c.each.owns.items = (let l = c.len-at.ensures in omega (arith, c.pop.new.self.ok.0, inv.few)) in
    merges (λ b. g.T.Task.number_of b.value) _ _ _ _ (holds_at (λ o. 0 < shares_of (worker_view o)) c.each.owns.items c.len-at.result c.index_mut.result.now lt
    c.index_mut.ensures.value inv.some)

pub each-preserved : goal.each-preserved
each-preserved g c =
    let inv = c.each.invariant in
    let own = c.index_mut.result.now in
    let new = c.absorb.new.self in
    let owns = c.each.owns.items in
    let steal_pass = c.in-Some.steal_pass in
    let rest = c.pop.new.self.items in
    let ids = map worker_deque c.args.owns.now.items in
    let at = c.len-at.result in
    let is = c.absorb.ensures.rule in
    let many = as_many worker_deque worker_deque c.args.owns.now.items owns inv.deques in
    let f = popped_front (λ g'. deque_of g'.pass) c.each.row.items rest steal_pass ids (worker_deque own) c.in-Some.ensures.items
    inv.front (omega (arith, inv.few, length-map c.args.owns.now.items worker_deque)) in
    let i : at ≡ length rest = (let l = c.len-at.ensures in omega (arith, c.pop.new.self.ok.0)) in
    let n = f.0 in
    let lt : at < length owns = omega (arith, inv.few, many) in
    let value = c.index_mut.ensures.value in
    let some = holds_at (λ o. 0 < shares_of (worker_view o)) owns at own lt value inv.some in
    let more : (worker_view new).shares ≡ (worker_view own).shares + 1 =
    (let p = ap (λ (v : Ledger). v.shares) is in let q = steal_pass.share in omega arith) in
    record {
      deques = map_change worker_deque owns at own new lt value c.absorb.ensures.same.0.0 ∙ inv.deques;
      front = f.1.1;
      few = omega (arith, inv.few);
      some = All-set (λ o. 0 < shares_of (worker_view o)) owns at new (omega arith) inv.some;
      shares = λ p all.
          let up = subst (λ k. IsUpTo p k (map worker_view owns)) (n ∙ ap suc (sym i)) (inv.shares p all) in
          subst (λ k. IsUpTo p k (map worker_view (set owns at new))) i
          (set_up_to p at worker_view owns own new lt value more up);
      pushed = λ h.
          let t = total_change (λ v. weigh h v.pushed) worker_view owns at own new lt value in
          let m = ap (λ l. total (λ v. weigh h v.pushed) (map (λ g'. view g'.pass) l)) c.in-Some.ensures.items
          ∙ total_more (λ v. weigh h v.pushed) (λ g'. view g'.pass) rest steal_pass in
          let e = ap (λ (v : Ledger). weigh h v.pushed) is in
          let a = weigh-append h (worker_view own).pushed (view steal_pass.pass).pushed in
          let o = inv.pushed h in
          omega arith;
      taken = λ h.
          let t = total_change (λ v. weigh h v.taken) worker_view owns at own new lt value in
          let m = ap (λ l. total (λ v. weigh h v.taken) (map (λ g'. view g'.pass) l)) c.in-Some.ensures.items
          ∙ total_more (λ v. weigh h v.taken) (λ g'. view g'.pass) rest steal_pass in
          let e = ap (λ (v : Ledger). weigh h v.taken) is in
          let a = weigh-append h (worker_view own).taken (view steal_pass.pass).taken in
          let o = inv.taken h in
          omega arith;
    }

pub returns-clause-shares : goal.returns-clause-shares
returns-clause-shares g c p all =
    let none : length c.each.row.items ≡ 0 = (let e = c.in_default.ensures.cases.0 in omega (arith, c.each.row.ok.0)) in
    all_up_to p worker_view c.each.owns.items (subst (λ k. IsUpTo p k (map worker_view c.each.owns.items)) none (c.each.invariant.shares p all))
