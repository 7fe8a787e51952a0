use Rattle.std.proofs.Common.{ap, arith}
use Rattle.alpha_core.specs.View.{safes_here}
use Rattle.alpha_core.proofs.PortRows.{below, port-is, seen}
use Rattle.alpha_core.proofs.ports.Ports.safes.Goals as goal

pub safes-requires : goal.safes-requires
safes-requires g c = record { port = below c.self.invariant (seen c.self.view_is) c.requires.port }

pub returns : goal.returns
returns g c = record {
  safes = omega (
    arith,
    c.safes.ensures.safes,
    ap (λ v. v.pulse) c.self.view_is,
    ap (λ p. safes_here p) (port-is c.self.invariant (seen c.self.view_is) c.requires.port),
  );
}
