use Rattle.std.proofs.Common.{arith, sym, ap, ◌∙◌}
use Rattle.alpha_core.specs.View.{safes_here}
use Rattle.alpha_core.specs.Rows.{rows_of, ports_of}
use Rattle.alpha_core.proofs.PortRows.{at-pulse, below, port-is, seen}
use Rattle.alpha_core.proofs.WhenRows.{safe-put}
use Rattle.alpha_core.proofs.ports.Ports.take_safe.Goals as goal

pub take_safe-requires-clause-port : goal.take_safe-requires-clause-port
take_safe-requires-clause-port g c = below c.self.invariant (seen c.self.view_is) c.requires.port

pub take_safe-requires-clause-next : goal.take_safe-requires-clause-next
take_safe-requires-clause-next g c = sym (ap (λ p. safes_here p) (port-is c.self.invariant (seen c.self.view_is) c.requires.port)) ∙ c.requires.next

pub take_safe-requires-clause-room : goal.take_safe-requires-clause-room
take_safe-requires-clause-room g c = omega (arith, c.requires.room, ap (λ v. v.pulse) c.self.view_is)

pub returns : goal.returns
returns g c =
    let a = c.self.inside in
    record {
      set = ap (λ m. record { pulse = m.pulse; ports = ports_of (rows_of m.ports a.inboxes a.outs) }) c.take_safe.ensures.set
          ∙ at-pulse c.self.view_is (safe-put a.inboxes c.self.invariant (seen c.self.view_is) c.requires.port c.args.when);
    }
