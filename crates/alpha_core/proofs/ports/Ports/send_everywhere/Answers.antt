use Rattle.std.proofs.Common.{◌<◌, Some, length, set, get_or, refl, ap, ◌∙◌, arith}
use Rattle.alpha_core.specs.OutLists.{payloads_out}
use Rattle.alpha_core.specs.View.{new_port}
use Rattle.alpha_core.proofs.Changed.{changed-none, changed-more}
use Rattle.alpha_core.proofs.Followed.{few-at}
use Rattle.alpha_core.proofs.PortLists.{room-at, same-pulse}
use Rattle.alpha_core.proofs.Entered.{all-sent, emitted}
use Rattle.alpha_core.proofs.ports.Ports.send_everywhere.Goals as goal

pub loop-port-init : goal.loop-port-init
loop-port-init g c = (refl, changed-none (λ k port. emitted c.args.self.now.pulse (Some c.args.payload) port) c.args.self.now.ports)

pub send-requires-clause-port : goal.send-requires-clause-port
send-requires-clause-port g c = omega (arith, c.degree-port-end.ensures.count, c.loop-port.invariant.1.size, c.loop-port-test.true)

pub send-requires-clause-room : goal.send-requires-clause-room
send-requires-clause-room g c =
    let ports = c.args.self.now.ports in
    let inside : c.loop-port.port < length ports = omega (arith, c.degree-port-end.ensures.count, c.loop-port-test.true) in
    omega (
      arith,
      room-at 3 ports c.loop-port.port new_port c.requires.room inside,
      ap (λ p. length p.out) (c.loop-port.invariant.1.left c.loop-port.port new_port (omega arith)),
    )

pub send-requires-clause-payload : goal.send-requires-clause-payload
send-requires-clause-payload g c =
    let ports = c.args.self.now.ports in
    let inside : c.loop-port.port < length ports = omega (arith, c.degree-port-end.ensures.count, c.loop-port-test.true) in
    omega (
      arith,
      few-at ports c.loop-port.port new_port inside c.requires.payloads,
      ap (λ p. payloads_out p.out) (c.loop-port.invariant.1.left c.loop-port.port new_port (omega arith)),
    )

pub loop-port-preserved : goal.loop-port-preserved
loop-port-preserved g c =
    let old = c.args.self.now in
    let i = c.loop-port.port in
    let inside : i < length old.ports = omega (arith, c.degree-port-end.ensures.count, c.loop-port-test.true) in (
      ap (λ v. v.pulse) c.send.ensures.set ∙ c.loop-port.invariant.0,
      changed-more (λ k port. emitted old.pulse (Some c.args.payload) port) old.ports c.loop-port.self.ports c.send.new.self.ports i new_port
          c.loop-port.invariant.1 inside
          (ap (λ v. v.ports) c.send.ensures.set
          ∙ ap (λ n. set c.loop-port.self.ports i (emitted n (Some c.args.payload) (get_or c.loop-port.self.ports i new_port))) c.loop-port.invariant.0),
    )

pub returns : goal.returns
returns g c =
    let old = c.args.self.now in
    record {
      entered = λ last below. same-pulse c.loop-port.self old _ c.loop-port.invariant.0 (all-sent last old.pulse old.ports c.args.payload
          c.loop-port.self.ports c.loop-port.port (λ e. omega arith) c.loop-port.invariant.1
          (omega (arith, c.degree-port-end.ensures.count, c.loop-port-test.false)));
    }
