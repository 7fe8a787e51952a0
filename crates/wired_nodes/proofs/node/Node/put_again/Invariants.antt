use Rattle.std.proofs.Common.{◌≡◌, None}
use Rattle.wired_nodes.proofs.Attempts.{Begun}
use Rattle.wired_nodes.proofs.node.Node.put_again.Given as goal

abbrev pub invariant-loop : goal.invariant-loop
invariant-loop g l = record { begun : Begun l.fn.self l.self 0; going : l.self.aside ≡ None }
