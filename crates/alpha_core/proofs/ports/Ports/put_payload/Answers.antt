use Rattle.std.proofs.Common.{sym, ap, ◌∙◌, arith}
use Rattle.alpha_core.specs.Rows.{rows_of, ports_of}
use Rattle.alpha_core.specs.When.{payload_taken}
use Rattle.alpha_core.proofs.PortRows.{at-pulse, below, port-is, seen}
use Rattle.alpha_core.proofs.WhenRows.{payload-of, payload-put, slots-length}
use Rattle.alpha_core.proofs.ports.Ports.put_payload.Goals as goal

pub put-requires-clause-port : goal.put-requires-clause-port
put-requires-clause-port g c =
    let is = seen c.self.view_is in
    omega (arith, below c.self.invariant is c.requires.port, slots-length c.self.inside.inboxes c.self.invariant is c.requires.port c.args.when)

pub put-requires-clause-empty : goal.put-requires-clause-empty
put-requires-clause-empty g c =
    let a = c.self.inside in
    sym (payload-of c.args.when a.marks.ports a.inboxes a.outs c.args.port)
    ∙ sym (ap (λ p. payload_taken c.args.when p) (port-is c.self.invariant (seen c.self.view_is) c.requires.port)) ∙ c.requires.none

pub returns : goal.returns
returns g c =
    let a = c.self.inside in
    record {
      set = ap (λ t. record { pulse = a.marks.pulse; ports = ports_of (rows_of a.marks.ports t a.outs) }) c.put.ensures.put
          ∙ at-pulse c.self.view_is (payload-put a.inboxes c.self.invariant (seen c.self.view_is) c.requires.port c.args.when c.args.payload);
    }
