-- The node makes the run's next pulse (`stepped`), so its outbox is the run's, and what is in it goes to the neighbours.
use Rattle.std.proofs.Common.{◌≡◌, ◌<◌, ◌+◌, ℕ, suc, length, set, ap, sym, ◌∙◌, arith, subst}
use Rattle.interference.specs.Net.{degree_of}
use Rattle.node_api.specs.Boxes.{Mail, nothing}
use Rattle.node_api.specs.Program.{RestsUntil}
use Rattle.sync_rounds.specs.Rests.{HasOutboxes, sent_by}
use Rattle.sync_rounds.proofs.Bounds.{one_next}
use Rattle.sync_rounds.proofs.Resting.{is_loud, outboxes_kept, own_out, sent_by-at, sent-length}
use Rattle.sync_rounds.proofs.Steps.{inbox_fits, left_empty, out_empty, stepped, unread_is}
use Rattle.sync_rounds.proofs.engine.turn.Goals as goal

pub bounds-outs-degree : goal.bounds-outs-degree
bounds-outs-degree g c =
    subst (λ (d : ℕ). d < length c.args.outs.now) (sym c.degree.ensures.value) (c.requires.served.outs.within c.args.v c.requires.due.vertex)

pub pulse_one-requires-clause-pulse : goal.pulse_one-requires-clause-pulse
pulse_one-requires-clause-pulse g c κs within = one_next c.args.done

pub pulse_one-requires-clause-unread : goal.pulse_one-requires-clause-unread
pulse_one-requires-clause-unread g c κs within = unread_is _ _ c.requires.due.inbox

pub pulse_one-requires-clause-ports : goal.pulse_one-requires-clause-ports
pulse_one-requires-clause-ports g c κs within =
    let m = g.P.NodeProgram in
    inbox_fits m.program m.laws.keeps_ports c.args.net.now c.args.done c.args.v _ _ c.requires.due.node
    (ap (λ (mail : Mail _). mail.slots) c.requires.due.inbox)

pub pulse_one-requires-clause-out : goal.pulse_one-requires-clause-out
pulse_one-requires-clause-out g c κs within =
    let m = g.P.NodeProgram in
    out_empty m.program m.laws.keeps_ports c.args.net.now c.args.done c.args.v _ _ c.requires.due.node
    (own_out c.args.net.now c.args.outs.now c.args.v c.degree.result c.index-outs-degree.result c.requires.due.vertex
    c.requires.served.outs c.degree.ensures.value)

pub send_out-is_loud-requires-clause-vertex : goal.send_out-is_loud-requires-clause-vertex
send_out-is_loud-requires-clause-vertex g c = c.requires.due.vertex

pub send_out-is_loud-requires-clause-ports : goal.send_out-is_loud-requires-clause-ports
send_out-is_loud-requires-clause-ports g c =
    let m = g.P.NodeProgram in
    let node = stepped m.program m.laws.keeps_ports c.args.net.now c.args.done c.args.v (c.args.done + 1) _ _ (
      c.pulse_one.new.node,
      c.pulse_one.new.out,
    ) (omega arith) c.requires.due.node (ap (λ (mail : Mail _). mail.slots) c.requires.due.inbox) c.pulse_one.ensures.node in
    ap (λ x. length x.1) node ∙ sent-length m.program c.args.net.now m.laws.keeps_ports (suc c.args.done) c.args.v

pub send_out-is_loud-requires-clause-before : goal.send_out-is_loud-requires-clause-before
send_out-is_loud-requires-clause-before g c =
    let m = g.P.NodeProgram in
    let node = stepped m.program m.laws.keeps_ports c.args.net.now c.args.done c.args.v (c.args.done + 1) _ _ (
      c.pulse_one.new.node,
      c.pulse_one.new.out,
    ) (omega arith) c.requires.due.node (ap (λ (mail : Mail _). mail.slots) c.requires.due.inbox) c.pulse_one.ensures.node in (
      sent_by m.program c.args.net.now (suc c.args.done),
      record {
        before = c.requires.served.delivered;
        row = sent_by-at m.program c.args.net.now (suc c.args.done) c.args.v c.requires.due.vertex ∙ sym (ap (λ x. x.1) node);
      },
    )

pub returns : goal.returns
returns g c =
    let m = g.P.NodeProgram in
    let net = c.args.net.now in
    let v = c.args.v in
    let next = suc c.args.done in
    let node = stepped m.program m.laws.keeps_ports net c.args.done v (c.args.done + 1) _ _ (
      c.pulse_one.new.node,
      c.pulse_one.new.out,
    ) (omega arith) c.requires.due.node (ap (λ (mail : Mail _). mail.slots) c.requires.due.inbox) c.pulse_one.ensures.node in
    let size = ap (λ x. length x.1) node ∙ sent-length m.program net m.laws.keeps_ports next v in
    let rests = subst (λ (q : ℕ). RestsUntil m.program c.pulse_one.new.node q c.rests_until-until.result)
    (let e : c.args.done + 1 ≡ suc c.args.done = omega arith in e) c.rests_until-until.ensures.rests in
    record {
      node = ap (λ x. x.0) node;
      inbox = left_empty m.program m.laws.keeps_ports net c.args.done v c.args.inbox.now.slots c.pulse_one.new.inbox
          (ap (λ (mail : Mail _). mail.slots) c.requires.due.inbox) c.pulse_one.ensures.empty;
      served = record {
        outs = subst (λ (d : ℕ). HasOutboxes net (set c.args.outs.now d c.send_out-is_loud.new.out)) (sym c.degree.ensures.value)
            (outboxes_kept net c.args.outs.now v c.send_out-is_loud.new.out c.requires.due.vertex c.requires.served.outs
            (c.send_out-is_loud.ensures.out ∙ ap (λ (n : ℕ). nothing n) size));
        delivered = c.send_out-is_loud.ensures.after (sent_by m.program net next) (record {
          before = c.requires.served.delivered;
          row = sent_by-at m.program net next v c.requires.due.vertex ∙ sym (ap (λ x. x.1) node);
        });
      };
      quiet = c.send_out-is_loud.ensures.quiet;
      sent = is_loud c.send_out-is_loud.result (degree_of net v) _ _ (ap (λ x. x.1) node) size c.send_out-is_loud.ensures.sent;
      rests = subst (λ s. RestsUntil m.program s next c.rests_until-until.result) (ap (λ x. x.0) node) rests;
    }
