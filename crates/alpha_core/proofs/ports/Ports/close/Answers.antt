use Rattle.std.proofs.Common.{true, ap, ◌∙◌}
use Rattle.alpha_core.specs.declared.marks.Marks.{Marks}
use Rattle.alpha_core.specs.Rows.{rows_of, ports_of}
use Rattle.alpha_core.proofs.PortRows.{at-pulse, below, marks-put, seen}
use Rattle.alpha_core.proofs.ports.Ports.close.Goals as goal

pub close-requires : goal.close-requires
close-requires g c = record { port = below c.self.invariant (seen c.self.view_is) c.requires.port }

pub returns : goal.returns
returns g c =
    let a = c.self.inside in
    record {
      set = ap (λ m. record { pulse = m.pulse; ports = ports_of (rows_of m.ports a.inboxes a.outs) }) c.close.ensures.set
          ∙ at-pulse c.self.view_is (marks-put (λ (m : Marks). record m { closed = true }) c.self.invariant (seen c.self.view_is) c.requires.port);
    }
