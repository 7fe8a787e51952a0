use Rattle.std.proofs.Common.{◌≡◌, ◌+◌, ◌<◌, ◌≤◌, ◌%◌, [], ◌∷◌, length, map, ap, refl, sym, ◌∙◌, arith, vec_len}
use Rattle.std.proofs.lemmas.List.{nil_from_length}
use Rattle.std.proofs.lemmas.List.Elements.{All-set}
use Rattle.crossbeam_deque.specs.Handles.{worker_capacity, worker_deque, worker_index, worker_view}
use Rattle.deque_rule.specs.declared.ledger.Ledger.{Ledger}
use Rattle.deque_rule.specs.Ledgers.{all_shares, shares_of, weigh}
use Rattle.deque_rule.proofs.Rule.{gives, map_snoc, weigh-append}
use Rattle.pool.proofs.Views.{as_many, map_change, total_change}
use Rattle.pool.proofs.Dealing.{all_given, none_given, one_given}
use Rattle.pool.proofs.Holds.{fresh_sums, holds_at}
use Rattle.pool.proofs.deques.deal.Goals as goal

pub each-init : goal.each-init
each-init g c = record {
  some = c.requires.some;
  deques = refl;
  shares = λ k d lt. ap (λ (v : Ledger). v.shares) (c.requires.new k d lt);
  room = c.requires.room;
  dealt = λ h.
      let z = fresh_sums worker_view all_shares c.args.owns.items c.requires.new h in
      let t = z.0 in
      let p = z.1 in
      (omega arith, omega arith);
  whose = λ k lt. none_given worker_view (λ b. g.T.Task.number_of b.value) (vec_len c.args.owns) c.args.owns.items c.args.tasks.items all_shares k
      c.requires.new (let n = c.args.owns.ok.0 in omega arith);
}

pub push_as-requires-clause-pushes : goal.push_as-requires-clause-pushes
push_as-requires-clause-pushes g c =
    let lt : c.dealt_to-at.result < length c.each.owns.items = (let w = c.dealt_to-at.ensures.within in omega (arith, c.each.owns.ok.0)) in
    let p = holds_at (λ o. shares_of (worker_view o) ≡ all_shares) c.each.owns.items c.dealt_to-at.result _ lt c.index_mut.ensures.value
    c.each.invariant.shares in
    gives (λ b. g.T.Task.number_of b.value) _ _ _ (omega arith)

pub each-preserved : goal.each-preserved
each-preserved g c =
    let old = c.index_mut.result.now in
    let new = c.push_as.new.self in
    let owns = c.each.owns.items in
    let at = c.dealt_to-at.result in
    let lt : at < length owns = (let w = c.dealt_to-at.ensures.within in omega (arith, c.each.owns.ok.0)) in
    let is = c.in-Ok.ensures.rule.0 in
    let p = holds_at (λ o. shares_of (worker_view o) ≡ all_shares) owns at old lt c.index_mut.ensures.value c.each.invariant.shares in
    let room = holds_at (λ o. worker_index o + vec_len c.each.tasks ≤ worker_capacity o) owns at old lt c.index_mut.ensures.value c.each.invariant.room in
    let fewer = c.in-Some.ensures.len in
    record {
      some = c.each.invariant.some;
      deques = map_change worker_deque owns at old new lt c.index_mut.ensures.value c.in-Ok.ensures.same.0 ∙ c.each.invariant.deques;
      shares = All-set (λ o. shares_of (worker_view o) ≡ all_shares) owns at new (ap (λ (v : Ledger). v.shares) is ∙ p) c.each.invariant.shares;
      room = All-set (λ o. worker_index o + vec_len c.pop.new.self ≤ worker_capacity o) owns at new
          (let i = c.in-Ok.ensures.rule.1 in let k = c.in-Ok.ensures.same.3 in omega arith)
          (λ k d l. let r = c.each.invariant.room k d l in omega arith);
      dealt = λ h.
          let t = total_change (λ v. weigh h v.taken) worker_view owns at old new lt c.index_mut.ensures.value in
          let q = total_change (λ v. weigh h v.pushed) worker_view owns at old new lt c.index_mut.ensures.value in
          let ta = ap (λ (v : Ledger). weigh h v.taken) is in
          let pa = ap (λ (v : Ledger). weigh h v.pushed) is in
          let a = weigh-append h (worker_view old).pushed (g.T.Task.number_of c.in-Some.task.value ∷ []) in
          let m = ap (λ l. weigh h (map (λ b. g.T.Task.number_of b.value) l)) c.in-Some.ensures.items
          ∙ ap (weigh h) (map_snoc (λ b. g.T.Task.number_of b.value) c.pop.new.self.items c.in-Some.task)
          ∙ weigh-append h (map (λ b. g.T.Task.number_of b.value) c.pop.new.self.items) (g.T.Task.number_of c.in-Some.task.value ∷ []) in
          let i = c.each.invariant.dealt h in
          let i0 = i.0 in
          let i1 = i.1 in
          (omega arith, omega arith);
      whose = λ k few.
          let many = as_many worker_deque worker_deque c.args.owns.items owns c.each.invariant.deques in
          let place : at ≡ g.T.Task.number_of c.in-Some.task.value % vec_len c.args.owns =
          c.dealt_to-at.ensures.place ∙ ap (λ n. n % c.len.result) c.number.ensures.number
          ∙ ap (λ t. g.T.Task.number_of t % c.len.result) c.deref.ensures
          ∙ ap (λ m. g.T.Task.number_of c.in-Some.task.value % m) (c.len.ensures ∙ c.each.owns.ok.0 ∙ many ∙ sym c.args.owns.ok.0) in
          one_given worker_view (λ b. g.T.Task.number_of b.value) (vec_len c.args.owns) owns old new c.each.tasks.items c.pop.new.self.items c.in-Some.task at k
          lt c.index_mut.ensures.value place c.in-Some.ensures.items (ap (λ (v : Ledger). v.pushed) is) ∙ c.each.invariant.whose k few;
    }

pub returns-clause-whose : goal.returns-clause-whose
returns-clause-whose g c k lt =
    all_given worker_view (λ b. g.T.Task.number_of b.value) (vec_len c.args.owns) c.each.owns.items c.each.tasks.items k
    (nil_from_length c.each.tasks.items (let e = c.in_default.ensures.cases.0 in omega (arith, e, c.each.tasks.ok.0))) ∙ c.each.invariant.whose k lt
