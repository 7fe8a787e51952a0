use Rattle.std.proofs.Common.{◌≡◌, None}
use Rattle.wired_nodes.proofs.Attempts.{Begun}
use Rattle.wired_nodes.proofs.node.Node.put_some.Given as goal

abbrev pub invariant-loop-put : goal.invariant-loop-put
invariant-loop-put g l = record { begun : Begun l.fn.self l.self l.put; going : l.self.aside ≡ None }
