use Rattle.std.proofs.Common.{◌≡◌, map, take}
use Rattle.plan_answers.proofs.colours_text.colours_of.Given as goal

abbrev pub invariant-loop-node : goal.invariant-loop-node
invariant-loop-node l = l.all.items ≡ map (λ node. node.merged) (take l.node-index l.nodes)
