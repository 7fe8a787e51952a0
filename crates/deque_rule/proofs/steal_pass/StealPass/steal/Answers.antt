use Rattle.std.proofs.Common.{arith}
use Rattle.deque_rule.proofs.Rule.{takes}
use Rattle.deque_rule.proofs.steal_pass.StealPass.steal.Goals as goal

pub steal_as-requires-clause-takes : goal.steal_as-requires-clause-takes
steal_as-requires-clause-takes g c = takes (λ b. g.T.Task.number_of b.value) _ _ 1 (let p = c.args.self.now.share in omega arith)
