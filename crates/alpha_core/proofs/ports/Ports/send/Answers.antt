use Rattle.std.proofs.Common.{ℕ, true, List, length, ap, ◌∙◌, arith}
use Rattle.std.proofs.lemmas.List.{length-set, get_or-set_same}
use Rattle.wires.specs.declared.wire.Wire.TheVariants.{Payload}
use Rattle.alpha_core.specs.OutLists.{payloads_out}
use Rattle.alpha_core.specs.View.{Port, port_in, set_at, new_port}
use Rattle.alpha_core.specs.Alpha.{emit}
use Rattle.alpha_core.specs.Rows.{AtPulse}
use Rattle.alpha_core.proofs.PortLists.{set_twice}
use Rattle.alpha_core.proofs.ports.Ports.send.Goals as goal

pub push-requires-clause-port : goal.push-requires-clause-port
push-requires-clause-port g c =
    let ports = c.args.self.now.ports in
    let p = record (port_in ports c.args.port) { waits = true } in
    omega (arith, c.requires.port, ap (λ v. length v.ports) c.set_waits.ensures.set, length-set ports c.args.port p)

pub push-requires-clause-room : goal.push-requires-clause-room
push-requires-clause-room g c =
    let ports = c.args.self.now.ports in
    let p = record (port_in ports c.args.port) { waits = true } in
    omega (
      arith,
      c.requires.room,
      ap (λ v. length (port_in v.ports c.args.port).out) c.set_waits.ensures.set,
      ap (λ q. length q.out) (get_or-set_same ports c.args.port p new_port c.requires.port),
    )

pub push-requires-clause-payload : goal.push-requires-clause-payload
push-requires-clause-payload g c =
    let ports = c.args.self.now.ports in
    let p = record (port_in ports c.args.port) { waits = true } in
    omega (
      arith,
      c.requires.payload,
      ap (λ v. payloads_out (port_in v.ports c.args.port).out) c.set_waits.ensures.set,
      ap (λ q. payloads_out q.out) (get_or-set_same ports c.args.port p new_port c.requires.port),
    )

pub returns : goal.returns
returns g c =
    let old = c.args.self.now in
    let i = c.args.port in
    let p = record (port_in old.ports i) { waits = true } in
    let n = c.pulse.result in
    record {
      set = c.push.ensures.set
          ∙ ap (λ (v : AtPulse (Port _)). record v { ports = set_at v.ports i (emit (Payload n c.args.payload) (port_in v.ports i)) }) c.set_waits.ensures.set
          ∙ ap (λ (l : List (Port _)). record old { ports = l }) (set_twice old.ports i p (λ q. emit (Payload n c.args.payload) q) c.requires.port)
          ∙ ap (λ (k : ℕ). record old { ports = set_at old.ports i (emit (Payload k c.args.payload) p) })
          (c.pulse.ensures.pulse ∙ ap (λ v. v.pulse) c.set_waits.ensures.set);
    }
