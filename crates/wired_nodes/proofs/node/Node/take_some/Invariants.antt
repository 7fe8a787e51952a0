use Rattle.std.proofs.Common.{◌≡◌}
use Rattle.std.specs.Prelude.{IsSome}
use Rattle.wired_nodes.proofs.Attempts.{Begun}
use Rattle.wired_nodes.proofs.node.Node.take_some.Given as goal

abbrev pub invariant-loop-take : goal.invariant-loop-take
invariant-loop-take g l = record { begun : Begun l.fn.self l.self l.take; stopped : IsSome l.fn.self.aside → l.take ≡ 0 }
