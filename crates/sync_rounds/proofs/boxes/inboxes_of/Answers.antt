-- There is room for an inbox of each vertex.
use Rattle.std.proofs.Common.{ℕ, ◌+◌, List, length, ap, sym, ◌∙◌, subst, falls}
use Rattle.node_api.specs.Boxes.{Mail, nothing, unread}
use Rattle.sync_rounds.specs.Lists.{Lists, empty_inbox}
use Rattle.sync_rounds.proofs.Bounds.{last_turn, none_below}
use Rattle.sync_rounds.proofs.Received.{Lists-push}
use Rattle.sync_rounds.proofs.boxes.inboxes_of.Goals as goal

pub loop-i-init : goal.loop-i-init
loop-i-init g c = record { count = ap length c.in_ok-inboxes.ensures.items; entry = λ k d low. none_below k low }

pub new-requires : goal.new-requires
new-requires g c = record { degree = c.degree.ensures.limit }

pub loop-i-smaller : goal.loop-i-smaller
loop-i-smaller g c = falls _ _ c.loop-i-test.true

pub loop-i-preserved : goal.loop-i-preserved
loop-i-preserved g c =
    subst (λ (xs : List (Mail _)). Lists (c.loop-i.i + 1) (empty_inbox c.args.net.now) xs) (sym c.in_ok-push.ensures.items)
    (Lists-push c.loop-i.i (empty_inbox c.args.net.now) c.loop-i.inboxes.items c.in_ok-new.field-0 c.loop-i.invariant
    (c.in_ok-new.ensures.empty ∙ ap (λ (n : ℕ). unread (nothing n)) c.degree.ensures.value))

pub returns : goal.returns
returns g c = record {
  empty = subst (λ (n : ℕ). Lists n (empty_inbox c.args.net.now) c.loop-i.inboxes.items)
      (last_turn c.loop-i.i c.nodes-i-end.result _ c.loop-i-test.false c.loop-i.auto.i-end c.nodes-i-end.ensures.count) c.loop-i.invariant;
}
