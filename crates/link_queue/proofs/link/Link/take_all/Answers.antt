use Rattle.std.proofs.Common.{◌≤◌, ◌+◌, ap, length, sym, subst, ◌∙◌}
use Rattle.crossbeam_queue.specs.Passes.{view}
use Rattle.link_rule.specs.Legal.{IsLegalOn}
use Rattle.link_queue.specs.Queued.{stamped_of, all_stamped}
use Rattle.link_queue.specs.Rule.{Linked}
use Rattle.link_queue.proofs.Mapped.{mapped_pops, mapped_learns}
use Rattle.link_queue.proofs.Meets.{seen_first, seen_next, not_empty, all_held, room_left, same_count}
use Rattle.link_queue.proofs.Rules.{takes, totals, legal_begin}
use Rattle.std.proofs.lemmas.List.{length-map}
use Rattle.link_queue.proofs.link.Link.take_all.Goals as goal

pub loop-init : goal.loop-init
loop-init g c =
    let none = c.requires.room.0 in
    record {
      of = c.requires.pass.0;
      seen = seen_first (view c.args.pass) c.args.held.items c.requires.pass.1 c.requires.pass.2 none;
      count = c.args.held.ok.0 ∙ ap length none;
      room = c.requires.room.1;
    }

pub pop_as-requires-clause-queue : goal.pop_as-requires-clause-queue
pop_as-requires-clause-queue g c = c.loop.invariant.of

pub pop_as-requires-clause-rule : goal.pop_as-requires-clause-rule
pop_as-requires-clause-rule g c =
    let program = g.P.NodeProgram.program in
    let legal = IsLegalOn program in
    let puts = ap (λ v. v.puts) c.loop.invariant.seen in
    let takes_ = ap (λ v. v.takes) c.loop.invariant.seen in (
      mapped_pops stamped_of (Linked legal) _ _ _ (takes legal _ _ takes_ (legal_begin program)),
      mapped_learns stamped_of (Linked legal) _ _ _ (totals legal _ _ puts takes_),
    )

pub push_reserved-requires : goal.push_reserved-requires
push_reserved-requires g c = room_left _ _ _ _ c.loop.invariant.count c.loop-test.true c.loop.invariant.room

pub unreachable-requires : goal.unreachable-requires
unreachable-requires g c =
    let left = c.in-None.ensures.rule.1 in
    let loop = c.loop in
    not_empty (view c.args.pass) (view loop.pass) loop.held.items (all_stamped left.0) c.args.n loop.counter
    loop.invariant.seen c.requires.count (sym loop.invariant.count ∙ loop.held.ok.0) c.loop-test.true
    (length-map left.0 stamped_of ∙ left.1) left.2.0

pub loop-preserved : goal.loop-preserved
loop-preserved g c =
    let loop = c.loop in
    let now = c.push_reserved in
    let step = c.in-Some.ensures in
    record {
      of = (step.queue.0 ∙ loop.invariant.of.0, step.queue.2 ∙ loop.invariant.of.1);
      seen = seen_next (view c.args.pass) (view loop.pass) (view c.pop_as.new.pass) loop.held.items now.new.self.items
          (stamped_of c.in-Some.queued) c.stamped.result loop.invariant.seen step.rule.0 c.stamped.ensures
          now.ensures.items;
      count = now.ensures.len ∙ ap (λ k. k + 1) loop.invariant.count;
      room = subst (λ k. c.args.n ≤ k) (sym now.ensures.capacity) loop.invariant.room;
    }

pub learn_as-requires-clause-queue : goal.learn_as-requires-clause-queue
learn_as-requires-clause-queue g c = c.loop.invariant.of

pub learn_as-requires-clause-rule : goal.learn_as-requires-clause-rule
learn_as-requires-clause-rule g c =
    let legal = IsLegalOn g.P.NodeProgram.program in
    let puts = ap (λ v. v.puts) c.loop.invariant.seen in
    let takes_ = ap (λ v. v.takes) c.loop.invariant.seen in
    mapped_learns stamped_of (Linked legal) _ _ _ (totals legal _ _ puts takes_)

pub returns-clause-view : goal.returns-clause-view
returns-clause-view g c = c.learn_as.ensures.queue.1 ∙ c.loop.invariant.seen

pub returns-clause-count : goal.returns-clause-count
returns-clause-count g c =
    let loop = c.loop in
    same_count _ _ _ _ loop.held.ok.0 loop.invariant.count loop.auto.counter-end c.loop-test.false

pub returns-clause-all : goal.returns-clause-all
returns-clause-all g c =
    let loop = c.loop in
    let left = c.learn_as.ensures.rule in
    let count = same_count _ _ _ _ loop.held.ok.0 loop.invariant.count loop.auto.counter-end c.loop-test.false in
    all_held (view c.args.pass) (view loop.pass) loop.held.items (all_stamped left.0) c.args.n loop.invariant.seen
    c.requires.count count left.1.0
