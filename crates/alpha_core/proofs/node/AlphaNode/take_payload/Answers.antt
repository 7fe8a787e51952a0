-- The plan: the port has the payload and then the acknowledgement (acknowledged), as the definition says (payload-takes).
use Rattle.std.proofs.Common.{◌<◌, length, sym, ap, ◌∙◌, arith}
use Rattle.std.proofs.lemmas.List.{length-set, get_or-set_same}
use Rattle.wires.specs.declared.wire.Wire.TheVariants.{Payload, Ack}
use Rattle.alpha_core.specs.Alpha.{emit, reacts}
use Rattle.alpha_core.specs.View.{Alpha, new_port, port_at, port_in}
use Rattle.alpha_core.specs.Followed.{unsaid}
use Rattle.alpha_core.specs.When.{payload_taken, when_of, with_payload}
use Rattle.alpha_core.proofs.Reacting.{port-changed}
use Rattle.alpha_core.proofs.Settled.{kept-set}
use Rattle.alpha_core.proofs.WhenTaken.{acknowledged, payload-follows, payload-quiet, payload-room, payload-takes}
use Rattle.alpha_core.proofs.node.AlphaNode.take_payload.Goals as goal

pub put_payload-requires-clause-port : goal.put_payload-requires-clause-port
put_payload-requires-clause-port g c = omega (arith, c.requires.port, ap (λ a. length a.node.view.ports) c.self.view_is)

pub put_payload-requires-clause-none : goal.put_payload-requires-clause-none
put_payload-requires-clause-none g c =
    ap (λ a. payload_taken c.when-when.result (port_at a.node.view c.args.port)) c.self.view_is
    ∙ ap (λ w. payload_taken w (port_at c.args.self.now.node.view c.args.port)) c.when-when.ensures.when ∙ c.requires.none

pub push-requires-clause-port : goal.push-requires-clause-port
push-requires-clause-port g c =
    let ports = c.self.inside.ports.ports in
    let p = with_payload c.when-when.result c.args.payload (port_in ports c.args.port) in
    omega (
      arith,
      c.requires.port,
      ap (λ a. length a.node.view.ports) c.self.view_is,
      ap (λ v. length v.ports) c.put_payload.ensures.set,
      length-set ports c.args.port p,
    )

pub push-requires-clause-room : goal.push-requires-clause-room
push-requires-clause-room g c =
    let ports = c.self.inside.ports.ports in
    let p = with_payload c.when-when.result c.args.payload (port_in ports c.args.port) in
    omega (
      arith,
      c.requires.room,
      ap (λ a. length (port_at a.node.view c.args.port).out) c.self.view_is,
      ap (λ v. length (port_in v.ports c.args.port).out) c.put_payload.ensures.set,
      ap (λ q. length q.out)
          (get_or-set_same ports c.args.port p new_port (omega (arith, c.requires.port, ap (λ a. length a.node.view.ports) c.self.view_is))),
      ap length (payload-room c.when-when.result c.args.payload (port_in ports c.args.port)),
    )

pub invariant_of-self : goal.invariant_of-self
invariant_of-self g c =
    let a = c.self.inside in
    let p = port_in a.ports.ports c.args.port in
    let below : c.args.port < length a.ports.ports = omega (arith, c.requires.port, ap (λ v. length v.node.view.ports) c.self.view_is) in
    kept-set _ _ a.last a.said a.ports c.args.port _ c.push.new.self
    (acknowledged a.ports c.put_payload.new.self c.push.new.self c.args.port c.args.q (with_payload c.when-when.result c.args.payload p)
    below c.put_payload.ensures.set c.push.ensures.set)
    below (λ f. payload-follows c.when-when.result c.args.payload p (unsaid a.said) c.args.q f)
    (λ h. payload-quiet c.when-when.result c.args.payload p h) c.self.invariant

pub returns : goal.returns
returns g c =
    let a = c.self.inside in
    let p = port_in a.ports.ports c.args.port in
    let below : c.args.port < length a.ports.ports = omega (arith, c.requires.port, ap (λ v. length v.node.view.ports) c.self.view_is) in
    let got = with_payload c.when-when.result c.args.payload p in
    record {
      rest = port-changed a.last a.said a.program a.ports c.push.new.self c.args.port (emit (Ack c.args.q) got) _
          (acknowledged a.ports c.put_payload.new.self c.push.new.self c.args.port c.args.q got below c.put_payload.ensures.set c.push.ensures.set)
          (payload-takes a.ports.pulse c.args.q c.when-when.result c.args.payload p
          (c.when-when.ensures.when ∙ ap (λ n. when_of n.node.view.pulse c.args.q) (sym c.self.view_is)))
          ∙ ap (λ (n : Alpha _ _). record n {
            node = record n.node { view = reacts n.last n.node.view c.args.port (Payload c.args.q c.args.payload) };
          }) c.self.view_is;
    }
