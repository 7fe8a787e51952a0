-- The pass of both ends is made by `absorb`, and stays as it is while the wires on the queue are counted. It is of the link (`same_link`),
-- and has what one end put and the other took (`same_view`); so, once the rest is taken, what was put is what was taken and what is held.
-- If memory is refused, the pass is split again, and each end has the name and the list that it came with.
use Rattle.std.proofs.Common.{◌≡◌, ◌≤◌, ◌++◌, true, ap, length, sym, subst, ◌∙◌}
use Rattle.crossbeam_queue.specs.Passes.{IsPassOf, view}
use Rattle.link_rule.specs.Legal.{IsLegalOn, LegalFor}
use Rattle.link_queue.specs.Queued.{stamped_of, all_stamped}
use Rattle.link_queue.specs.Rule.{Linked, end_view, has_close}
use Rattle.link_queue.proofs.Mapped.{mapped_forks, mapped_learns, mapped_merges}
use Rattle.link_queue.proofs.Meets.{left_over}
use Rattle.link_queue.proofs.Rules.{merges, forks, totals}
use Rattle.std.proofs.lemmas.List.{length-map}
use Rattle.wires.specs.StampedWires.{wires_of}
use Rattle.link_queue.proofs.link.Link.meet.Goals as goal
use Rattle.link_queue.proofs.link.Link.meet.Goals.{After-len_as-n}

-- the pass of both ends is of the link
same_link : (g : _) (c : After-len_as-n g) → IsPassOf c.args.self.now.queue c.len_as-n.new.pass
same_link g c =
    let joined = c.absorb.ensures.queue in
    let counted = c.len_as-n.ensures.queue.0 in
    (counted.0 ∙ joined.0 ∙ c.requires.put_end.0, counted.2 ∙ joined.2 ∙ c.requires.put_end.1)

-- it has what was put and what was taken
same_view : (g : _) (c : After-len_as-n g) →
    view c.len_as-n.new.pass ≡ end_view (view c.args.put_end.pass).name true true (view c.args.put_end.pass).put (view c.args.take_end.pass).taken
same_view g c = c.len_as-n.ensures.queue.1 ∙ c.absorb.ensures.rule

-- what was put is legal
legal_put : (g : _) (c : After-len_as-n g) →
    LegalFor (IsLegalOn g.P.NodeProgram.program) (view c.args.put_end.pass).name (wires_of (view c.args.put_end.pass).put)
legal_put g c =
    subst (λ v. LegalFor (IsLegalOn g.P.NodeProgram.program) v.name (wires_of v.put)) c.absorb.ensures.rule c.len_as-n.ensures.rule.1.2.1

-- The ends are joined, and the wires on the queue counted.
pub absorb-requires-clause-queue : goal.absorb-requires-clause-queue
absorb-requires-clause-queue g c = (c.requires.put_end, c.requires.take_end)

pub absorb-requires-clause-rule : goal.absorb-requires-clause-rule
absorb-requires-clause-rule g c =
    let legal = IsLegalOn g.P.NodeProgram.program in
    mapped_merges stamped_of (Linked legal) _ _ _ _ _ _
    (merges legal _ _ _ _ c.args.put_end.puts.1 c.args.take_end.takes.1)

pub len_as-n-requires-clause-queue : goal.len_as-n-requires-clause-queue
len_as-n-requires-clause-queue g c =
    let joined = c.absorb.ensures.queue in
    (joined.0 ∙ c.requires.put_end.0, joined.2 ∙ c.requires.put_end.1)

pub len_as-n-requires-clause-rule : goal.len_as-n-requires-clause-rule
len_as-n-requires-clause-rule g c =
    let legal = IsLegalOn g.P.NodeProgram.program in
    let seen = c.absorb.ensures.rule in
    mapped_learns stamped_of (Linked legal) _ _ _ (totals legal _ _ (ap (λ v. v.puts) seen) (ap (λ v. v.takes) seen))

-- With room for them, all are taken.
pub take_all-both-requires-clause-pass : goal.take_all-both-requires-clause-pass
take_all-both-requires-clause-pass g c κs within =
    let at = (goal.at.take_all-both-requires-clause-pass g c).After-len_as-n in
    (same_link g at, ap (λ v. v.puts) (same_view g at), ap (λ v. v.takes) (same_view g at))

pub take_all-both-requires-clause-count : goal.take_all-both-requires-clause-count
take_all-both-requires-clause-count g c κs within =
    let counted = c.len_as-n.ensures in
    let left = counted.rule.1 in
    left_over (view c.absorb.new.pass) (view c.len_as-n.new.pass) (all_stamped left.0) _ counted.queue.1 left.2.0
    (length-map left.0 stamped_of ∙ left.1)

pub take_all-both-requires-clause-room : goal.take_all-both-requires-clause-room
take_all-both-requires-clause-room g c κs within =
    (c.in-Ok.ensures.items, c.in-Ok.ensures.capacity)

pub returns-in-Ok-clause-met : goal.returns-in-Ok-clause-met
returns-in-Ok-clause-met g c =
    let seen = same_view g (goal.at.returns-in-Ok-clause-met g c).After-len_as-n in
    let took = c.take_all-both.ensures in
    let all = ap view c.of.ensures.pass ∙ took.view in
    let put = ap (λ v. v.put) seen in
    record {
      of_link = ap (λ v. v.name) all ∙ ap (λ v. v.name) seen;
      all_put = ap (λ v. v.put) all ∙ put;
      in_order = sym put ∙ took.all ∙ (λ i. (seen i).taken ++ (sym c.of.ensures.held i).items);
    }

pub returns-in-Ok-clause-legal : goal.returns-in-Ok-clause-legal
returns-in-Ok-clause-legal g c = legal_put g (goal.at.returns-in-Ok-clause-legal g c).After-len_as-n

pub returns-in-Ok-clause-room : goal.returns-in-Ok-clause-room
returns-in-Ok-clause-room g c =
    let count = ap (λ h. length h.items) c.of.ensures.held ∙ c.take_all-both.ensures.count in
    subst (λ k. k ≤ c.args.self.now.queue.cap) (sym count) c.len_as-n.ensures.rule.0

-- Without it, the pass is split again.
pub another-other-requires-clause-queue : goal.another-other-requires-clause-queue
another-other-requires-clause-queue g c = same_link g (goal.at.another-other-requires-clause-queue g c).After-len_as-n

pub another-other-requires-clause-rule : goal.another-other-requires-clause-rule
another-other-requires-clause-rule g c =
    let at = (goal.at.another-other-requires-clause-rule g c).After-len_as-n in
    let legal = IsLegalOn g.P.NodeProgram.program in
    let seen = same_view g at in
    mapped_forks stamped_of (Linked legal) _ _ _ _
    (forks legal _ _ _ (ap (λ v. v.puts) seen) (ap (λ v. v.takes) seen) (subst (λ v. LegalFor legal v.name (wires_of v.put)) (sym seen) (legal_put g at)))

pub put_end_of-requires-clause-puts : goal.put_end_of-requires-clause-puts
put_end_of-requires-clause-puts g c =
    let split = c.another-other.ensures in
    (split.queue.0.2 ∙ (same_link g (goal.at.put_end_of-requires-clause-puts g c).After-len_as-n).1, ap (λ v. v.puts) split.rule.0)

pub put_end_of-requires-clause-closed : goal.put_end_of-requires-clause-closed
put_end_of-requires-clause-closed g c =
    let seen = same_view g (goal.at.put_end_of-requires-clause-closed g c).After-len_as-n in
    let put = ap (λ v. v.put) c.another-other.ensures.rule.0 ∙ ap (λ v. v.put) seen in
    c.args.put_end.puts.2 ∙ sym (ap (λ l. has_close (wires_of l)) put)

pub take_end_of-requires : goal.take_end_of-requires
take_end_of-requires g c = (c.another-other.ensures.queue.1.1, ap (λ v. v.takes) c.another-other.ensures.rule.1)

pub returns-in-Err-clause-refused : goal.returns-in-Err-clause-refused
returns-in-Err-clause-refused g c =
    let at = (goal.at.returns-in-Err-clause-refused g c).After-len_as-n in
    let seen = same_view g at in
    let split = c.another-other.ensures in
    let puts = c.put_end_of.ensures in
    let takes = c.take_end_of.ensures in
    let put_view = ap view puts ∙ split.rule.0 in
    let take_view = ap view takes ∙ split.rule.1 in
    let table = split.queue.0.0 ∙ (same_link g at).0 in
    record {
      put_end = (
        (ap (λ p. p.table_id) puts ∙ table, c.put_end_of.result.puts.0),
        ap (λ v. v.name) put_view ∙ ap (λ v. v.name) seen,
      );
      put = ap (λ v. v.put) put_view ∙ ap (λ v. v.put) seen;
      take_end = (
        (ap (λ p. p.table_id) takes ∙ split.queue.1.0, c.take_end_of.result.takes.0),
        ap (λ v. v.name) take_view ∙ ap (λ v. v.name) seen ∙ c.requires.name,
      );
      taken = ap (λ v. v.taken) take_view ∙ ap (λ v. v.taken) seen;
    }

-- The clauses of the other result.
pub returns-in-Err-clause-met : goal.returns-in-Err-clause-met
returns-in-Err-clause-met g c = tt

pub returns-in-Err-clause-legal : goal.returns-in-Err-clause-legal
returns-in-Err-clause-legal g c = tt

pub returns-in-Err-clause-room : goal.returns-in-Err-clause-room
returns-in-Err-clause-room g c = tt

pub returns-in-Ok-clause-refused : goal.returns-in-Ok-clause-refused
returns-in-Ok-clause-refused g c = tt
