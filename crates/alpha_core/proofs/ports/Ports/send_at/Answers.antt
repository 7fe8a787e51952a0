-- The ports before the loop's have got their payload. The loop's port is one of the node's, and has got none yet, since the outbox lists each
-- port once (place-below, place-fresh); and the outbox has a payload for it.
use Rattle.std.proofs.Common.{◌≡◌, ◌<◌, ℕ, Some, List, length, take, set, get_or, refl, sym, subst, ap, ◌∙◌, arith}
use Rattle.std.proofs.lemmas.List.{take_more, take_all}
use Rattle.node_api.specs.Boxes.{at_port}
use Rattle.node_api.proofs.Slots.{some_or_none}
use Rattle.alpha_core.specs.OutLists.{payloads_out}
use Rattle.alpha_core.specs.View.{new_port}
use Rattle.alpha_core.proofs.Changed.{ChangedAt, changed-nowhere, changed-place, place-below, place-fresh, place-some}
use Rattle.alpha_core.proofs.Followed.{few-at}
use Rattle.alpha_core.proofs.PortLists.{room-at, same-pulse}
use Rattle.alpha_core.proofs.Entered.{emitted, some-sent}
use Rattle.alpha_core.proofs.ports.Ports.send_at.Goals as goal

pub get-requires : goal.get-requires
get-requires g c = record { port = place-below c.args.out.now c.args.ports.now c.requires.sent c.loop-port.port-index c.loop-port-test.true }

pub unreachable-requires : goal.unreachable-requires
unreachable-requires g c =
    let out = c.args.out.now in
    some_or_none (at_port out (get_or c.args.ports.now c.loop-port.port-index 0))
    (place-some out c.args.ports.now c.requires.sent c.loop-port.port-index c.loop-port-test.true) (sym c.get.ensures.payload ∙ c.in-None.is)

pub send-requires-clause-port : goal.send-requires-clause-port
send-requires-clause-port g c =
    omega (
      arith,
      place-below c.args.out.now c.args.ports.now c.requires.sent c.loop-port.port-index c.loop-port-test.true,
      c.requires.out,
      c.loop-port.invariant.1.size,
    )

pub send-requires-clause-room : goal.send-requires-clause-room
send-requires-clause-room g c =
    let old = c.args.self.now.ports in
    let k = c.loop-port.port-index in
    let i : ℕ = get_or c.args.ports.now k 0 in
    let inside : i < length old = omega (arith, place-below c.args.out.now c.args.ports.now c.requires.sent k c.loop-port-test.true, c.requires.out) in
    omega (
      arith,
      room-at 3 old i new_port c.requires.room inside,
      ap (λ p. length p.out)
          (c.loop-port.invariant.1.left i new_port (place-fresh c.args.out.now c.args.ports.now c.requires.sent k c.loop-port-test.true)),
    )

pub send-requires-clause-payload : goal.send-requires-clause-payload
send-requires-clause-payload g c =
    let old = c.args.self.now.ports in
    let k = c.loop-port.port-index in
    let i : ℕ = get_or c.args.ports.now k 0 in
    let inside : i < length old = omega (arith, place-below c.args.out.now c.args.ports.now c.requires.sent k c.loop-port-test.true, c.requires.out) in
    omega (
      arith,
      few-at old i new_port inside c.requires.payloads,
      ap (λ p. payloads_out p.out)
          (c.loop-port.invariant.1.left i new_port (place-fresh c.args.out.now c.args.ports.now c.requires.sent k c.loop-port-test.true)),
    )

pub loop-port-init : goal.loop-port-init
loop-port-init g c = (refl, changed-nowhere (λ k port. emitted c.args.self.now.pulse (at_port c.args.out.now k) port) c.args.self.now.ports)

pub loop-port-preserved : goal.loop-port-preserved
loop-port-preserved g c =
    let old = c.args.self.now in
    let ports = c.args.ports.now in
    let k = c.loop-port.port-index in
    let i : ℕ = get_or ports k 0 in
    let at = c.loop-port.self.ports in
    let inside : i < length old.ports = omega (arith, place-below c.args.out.now ports c.requires.sent k c.loop-port-test.true, c.requires.out) in (
      ap (λ v. v.pulse) c.send.ensures.set ∙ c.loop-port.invariant.0,
      subst (λ (l : List ℕ). ChangedAt (λ j port. emitted old.pulse (at_port c.args.out.now j) port) old.ports c.send.new.self.ports l)
          (sym (take_more ports k 0 c.loop-port-test.true))
          (changed-place (λ j port. emitted old.pulse (at_port c.args.out.now j) port) old.ports at c.send.new.self.ports (take k ports) i new_port
          c.loop-port.invariant.1 inside (place-fresh c.args.out.now ports c.requires.sent k c.loop-port-test.true)
          (ap (λ v. v.ports) c.send.ensures.set
          ∙ ap (λ n. set at i (emitted n (Some c.in-Some.payload) (get_or at i new_port))) c.loop-port.invariant.0
          ∙ ap (λ o. set at i (emitted old.pulse o (get_or at i new_port))) (sym (sym c.get.ensures.payload ∙ c.in-Some.is)))),
    )

pub returns : goal.returns
returns g c =
    let old = c.args.self.now in
    let ports = c.args.ports.now in
    let k = c.loop-port.port-index in
    let all : take k ports ≡ ports = take_all k ports (omega (arith, c.loop-port-test.false)) in
    record {
      entered = λ last below. same-pulse c.loop-port.self old _ c.loop-port.invariant.0 (some-sent last old.pulse old.ports c.args.out.now ports
          c.loop-port.self.ports (λ e. omega arith) c.requires.waits c.requires.sent
          (subst (λ (l : List ℕ). ChangedAt (λ j port. emitted old.pulse (at_port c.args.out.now j) port) old.ports c.loop-port.self.ports l) all
          c.loop-port.invariant.1));
    }
