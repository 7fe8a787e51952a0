use Rattle.std.proofs.Common.{◌≡◌, ◌≤◌, ◌<◌, ◌+◌, ℕ, suc, [], false}
use Rattle.std.specs.Prelude.{⊤, slice_index_or}
use Rattle.interference.specs.Net.{count_of}
use Rattle.node_api.specs.Boxes.{Mail, unread}
use Rattle.node_api.specs.Program.{RestsUntil}
use Rattle.node_api.specs.Run.{inbox_at, state_at}
use Rattle.sync_rounds.specs.Delivery.{Delivered}
use Rattle.sync_rounds.specs.Lists.{Lists, empty_inbox}
use Rattle.sync_rounds.specs.Rests.{HasOutboxes, IsLoud, sent_by}
use Rattle.sync_rounds.proofs.Halfway.{IsHalfway}
use Rattle.sync_rounds.proofs.engine.round.Given as goal

-- the nodes and inboxes below i are those of the next pulse, the others those of this one; what the vertices up to i send was delivered
abbrev pub invariant-loop-i : goal.invariant-loop-i
invariant-loop-i g l =
    let m = g.P.NodeProgram in
    let n = count_of l.net in
    let next = suc l.done in
    record {
      nodes : IsHalfway n (λ k x. x ≡ state_at m.program l.net next (k + 1)) (λ k x. x ≡ state_at m.program l.net l.done (k + 1)) l.i l.nodes;
      now : IsHalfway n (λ k (x : Mail _). x ≡ empty_inbox l.net (k + 1)) (λ k x. x ≡ unread (inbox_at m.program l.net next (k + 1))) l.i l.now;
      untils : IsHalfway n (λ k x. RestsUntil m.program (state_at m.program l.net next (k + 1)) next x)
          (λ k x. RestsUntil m.program (state_at m.program l.net l.done (k + 1)) l.done x) l.i l.untils;
      loud : IsHalfway n (λ k x. IsLoud m.program l.net next (k + 1) x) (λ k x. ⊤) l.i l.loud;
      outs : HasOutboxes l.net l.outs;
      least : (k d : ℕ) → k < l.i → l.least ≤ slice_index_or l.untils k d;
      quiet : l.sent ≡ false → Lists (count_of l.net) (empty_inbox l.net) l.later;
      later : Delivered l.net (sent_by m.program l.net next) (l.i + 1) [] l.later;
    }
