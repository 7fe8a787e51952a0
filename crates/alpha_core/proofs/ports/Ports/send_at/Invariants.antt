use Rattle.std.proofs.Common.{◌≡◌, take}
use Rattle.node_api.specs.Boxes.{at_port}
use Rattle.alpha_core.proofs.Changed.{ChangedAt}
use Rattle.alpha_core.proofs.Entered.{emitted}
use Rattle.alpha_core.proofs.ports.Ports.send_at.Given as goal

abbrev pub invariant-loop-port : goal.invariant-loop-port
invariant-loop-port g l = (l.self.pulse ≡ l.fn.self.pulse)
    × ChangedAt (λ k port. emitted l.fn.self.pulse (at_port l.out k) port) l.fn.self.ports l.self.ports (take l.port-index l.ports)
