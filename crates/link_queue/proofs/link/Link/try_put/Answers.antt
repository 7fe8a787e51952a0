use Rattle.std.proofs.Common.{◌≡◌, refl, [], ◌∷◌, ◌++◌, ap, ◌∙◌, subst, sym}
use Rattle.std.proofs.lemmas.List.{map-append}
use Rattle.crossbeam_queue.specs.Passes.{view}
use Rattle.wires.specs.StampedWires.{wires_of}
use Rattle.wires.specs.declared.stamped.Stamped.{Stamped}
use Rattle.link_rule.specs.Legal.{IsLegalOn, LegalFor}
use Rattle.link_queue.specs.Queued.{stamped_of}
use Rattle.link_queue.specs.Rule.{Linked, end_view, has_close}
use Rattle.link_queue.proofs.Mapped.{mapped_pushes}
use Rattle.link_queue.proofs.Rules.{puts, closes, stays}
use Rattle.link_queue.specs.Ends.{put_stamped}
use Rattle.link_queue.proofs.link.Link.try_put.Goals.{in-Close, in_default}
use Rattle.link_queue.proofs.link.Link.try_put.Given as given
use Rattle.link_queue.proofs.link.Link.try_put.Goals as goal

pub try_push_as-requires-clause-rule : goal.try_push_as-requires-clause-rule
try_push_as-requires-clause-rule g c =
    let legal = IsLegalOn g.P.NodeProgram.program in
    let may = c.args.end.now.puts.1 in
    let end = view c.args.end.now.pass in
    let item = c.args.item in
    let same = c.of-queued.ensures in
    let more = map-append (λ (x : Stamped _). x.wire) end.put (item ∷ []) in
    let fits = subst (LegalFor legal end.name) (sym more) c.requires.legal in
    mapped_pushes stamped_of (Linked legal) _ _ end _ item (λ x w. w ≡ end_view end.name end.puts end.takes (end.put ++ x ∷ []) end.taken) same
    (puts legal _ _ end item may fits c.requires.above)

pub invariant_of-end : goal.invariant_of-end
invariant_of-end g c =
    let old = c.args.end.now.puts in
    let item = c.args.item in
    let same = c.of-queued.ensures in
    let r = c.in-Ok.ensures.rule in
    let put = ap (λ v. v.put) r ∙ ap (λ x. (view c.args.end.now.pass).put ++ x ∷ []) same in
    record { puts = (c.in-Ok.ensures.queue.2 ∙ old.0, ap (λ v. v.puts) r ∙ old.1, closes _ _ _ c.in-Close.is put) }

pub invariant_of-end-in-Ok : goal.invariant_of-end-in-Ok
invariant_of-end-in-Ok g c =
    let old = c.args.end.now.puts in
    let item = c.args.item in
    let same = c.of-queued.ensures in
    let r = c.in-Ok.ensures.rule in
    let put = ap (λ v. v.put) r ∙ ap (λ x. (view c.args.end.now.pass).put ++ x ∷ []) same in
    record { puts = (c.in-Ok.ensures.queue.2 ∙ old.0, ap (λ v. v.puts) r ∙ old.1, stays _ _ _ _ c.in_default.not-Close old.2 put) }

pub try_push_as-requires-clause-queue : goal.try_push_as-requires-clause-queue
try_push_as-requires-clause-queue g c = c.requires.end

pub invariant_of-end-in-Err : goal.invariant_of-end-in-Err
invariant_of-end-in-Err g c =
    let old = c.args.end.now.puts in
    let same = c.in-Err.ensures.rule.1 in
    let closed = ap (λ v. has_close (wires_of v.put)) same in
    record { puts = (c.in-Err.ensures.queue.2 ∙ old.0, ap (λ v. v.puts) same ∙ old.1, old.2 ∙ sym closed) }

pub returns-after-item-clause-same_wire : goal.returns-after-item-clause-same_wire
returns-after-item-clause-same_wire g c = tt

pub returns-after-item-clause-unchanged : goal.returns-after-item-clause-unchanged
returns-after-item-clause-unchanged g c = tt

-- whether the wire is a close or not, the end has the pass that the queue gave back
same_pass : (g : given.Over) (c : goal.Joined-item g) → c.match-item.end.pass ≡ c.try_push_as.new.pass
same_pass g c = elim c.match-item.branch [
  | in-Close w ↦ ap (λ e. e.pass) w.end-is
  | in_default w ↦ ap (λ e. e.pass) w.end-is
]

put_more : (g : given.Over) (c : goal.Joined-item g)
    → put_stamped c.match-item.end ≡ put_stamped c.args.end.now ++ c.args.item ∷ []
put_more g c =
    ap (λ v. v.put) (ap view (same_pass g c)) ∙ ap (λ v. v.put) c.in-Ok.ensures.rule
    ∙ ap (λ x. put_stamped c.args.end.now ++ x ∷ []) c.of-queued.ensures

pub returns-after-item-clause-end : goal.returns-after-item-clause-end
returns-after-item-clause-end g c =
    let same = same_pass g c in
    let queue = c.in-Ok.ensures.queue in
    let end = c.requires.end in (
      (ap (λ p. p.table_id) same ∙ queue.0 ∙ end.0, c.match-item.end.puts.0),
      ap (λ v. v.name) (ap view same) ∙ ap (λ v. v.name) c.in-Ok.ensures.rule,
    )

pub returns-after-item-clause-stamped : goal.returns-after-item-clause-stamped
returns-after-item-clause-stamped g c = put_more g c

pub returns-after-item-clause-put : goal.returns-after-item-clause-put
returns-after-item-clause-put g c =
    let before = put_stamped c.args.end.now in
    ap wires_of (put_more g c) ∙ map-append (λ (x : Stamped _). x.wire) before (c.args.item ∷ [])

pub returns-in-Err-clause-end : goal.returns-in-Err-clause-end
returns-in-Err-clause-end g c =
    let queue = c.in-Err.ensures.queue in
    let end = c.requires.end in
    ((queue.0 ∙ end.0, queue.2 ∙ end.1), ap (λ v. v.name) c.in-Err.ensures.rule.1)

pub returns-in-Err-clause-put : goal.returns-in-Err-clause-put
returns-in-Err-clause-put g c = tt

pub returns-in-Err-clause-stamped : goal.returns-in-Err-clause-stamped
returns-in-Err-clause-stamped g c = tt

pub returns-in-Err-clause-same_wire : goal.returns-in-Err-clause-same_wire
returns-in-Err-clause-same_wire g c = refl

pub returns-in-Err-clause-unchanged : goal.returns-in-Err-clause-unchanged
returns-in-Err-clause-unchanged g c = ap (λ v. v.put) c.in-Err.ensures.rule.1
