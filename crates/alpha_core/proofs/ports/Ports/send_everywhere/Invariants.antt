use Rattle.std.proofs.Common.{◌≡◌, Some}
use Rattle.alpha_core.proofs.Changed.{ChangedUpTo}
use Rattle.alpha_core.proofs.Entered.{emitted}
use Rattle.alpha_core.proofs.ports.Ports.send_everywhere.Given as goal

abbrev pub invariant-loop-port : goal.invariant-loop-port
invariant-loop-port g l = (l.self.pulse ≡ l.fn.self.pulse)
    × ChangedUpTo (λ k port. emitted l.fn.self.pulse (Some l.fn.payload) port) l.fn.self.ports l.self.ports l.port
