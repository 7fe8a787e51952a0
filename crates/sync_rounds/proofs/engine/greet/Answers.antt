-- A node that was made greets (`started`), so its outbox is the run's, and what is in it goes to the neighbours.
use Rattle.std.proofs.Common.{◌≡◌, ◌<◌, ℕ, length, set, ap, sym, ◌∙◌, subst}
use Rattle.interference.specs.Net.{degree_of}
use Rattle.node_api.specs.Boxes.{nothing}
use Rattle.node_api.specs.Program.{own_of}
use Rattle.sync_rounds.specs.Rests.{HasOutboxes, sent_by}
use Rattle.sync_rounds.proofs.Resting.{is_loud, outboxes_kept, own_out, sent_by-at, sent-length}
use Rattle.sync_rounds.proofs.Steps.{started}
use Rattle.sync_rounds.proofs.engine.greet.Goals as goal

pub bounds-outs-degree : goal.bounds-outs-degree
bounds-outs-degree g c =
    subst (λ (d : ℕ). d < length c.args.outs.now) (sym c.degree.ensures.value) (c.requires.served.outs.within c.args.v c.requires.vertex)

pub init-requires : goal.init-requires
init-requires g c =
    let m = g.P.NodeProgram in
    let ports : degree_of c.args.net.now c.args.v ≡ m.program.ports c.args.node.now =
    sym (ap m.program.ports c.requires.node ∙ m.laws.keeps_ports.made_ports (own_of c.args.net.now c.args.v)) in
    record {
      out = own_out c.args.net.now c.args.outs.now c.args.v c.degree.result c.index-outs-degree.result c.requires.vertex
          c.requires.served.outs c.degree.ensures.value
          ∙ ap (λ (n : ℕ). nothing n) ports;
    }

pub send_out-requires-clause-vertex : goal.send_out-requires-clause-vertex
send_out-requires-clause-vertex g c = c.requires.vertex

pub send_out-requires-clause-ports : goal.send_out-requires-clause-ports
send_out-requires-clause-ports g c =
    let m = g.P.NodeProgram in
    let node = started m.program m.laws.keeps_ports c.args.net.now c.args.v c.args.node.now (c.init.new.self, c.init.new.out) c.requires.node
    c.init.ensures.node in
    ap (λ x. length x.1) node ∙ sent-length m.program c.args.net.now m.laws.keeps_ports 0 c.args.v

pub send_out-requires-clause-before : goal.send_out-requires-clause-before
send_out-requires-clause-before g c =
    let m = g.P.NodeProgram in
    let node = started m.program m.laws.keeps_ports c.args.net.now c.args.v c.args.node.now (c.init.new.self, c.init.new.out) c.requires.node
    c.init.ensures.node in (
      sent_by m.program c.args.net.now 0,
      record {
        before = c.requires.served.delivered;
        row = sent_by-at m.program c.args.net.now 0 c.args.v c.requires.vertex ∙ sym (ap (λ x. x.1) node);
      },
    )

pub returns : goal.returns
returns g c =
    let m = g.P.NodeProgram in
    let net = c.args.net.now in
    let v = c.args.v in
    let node = started m.program m.laws.keeps_ports net v c.args.node.now (c.init.new.self, c.init.new.out) c.requires.node c.init.ensures.node in
    let size = ap (λ x. length x.1) node ∙ sent-length m.program net m.laws.keeps_ports 0 v in
    record {
      node = ap (λ x. x.0) node;
      served = record {
        outs = subst (λ (d : ℕ). HasOutboxes net (set c.args.outs.now d c.send_out.new.out)) (sym c.degree.ensures.value)
            (outboxes_kept net c.args.outs.now v c.send_out.new.out c.requires.vertex c.requires.served.outs
            (c.send_out.ensures.out ∙ ap (λ (n : ℕ). nothing n) size));
        delivered = c.send_out.ensures.after (sent_by m.program net 0) (record {
          before = c.requires.served.delivered;
          row = sent_by-at m.program net 0 v c.requires.vertex ∙ sym (ap (λ x. x.1) node);
        });
      };
      sent = is_loud c.send_out.result (degree_of net v) _ _ (ap (λ x. x.1) node) size c.send_out.ensures.sent;
    }
