use Rattle.std.proofs.Common.{◌≡◌, drop, map}
use Rattle.node_runs.specs.Refusals.{fault_of_refusals}
use Rattle.node_runs.proofs.refusals.fault_of_refusals.Given as goal

abbrev pub invariant-loop-node : goal.invariant-loop-node
invariant-loop-node g l = fault_of_refusals (tt {0}) (map (λ b. b.value.refusal) l.nodes)
    ≡ fault_of_refusals (tt {0}) (map (λ b. b.value.refusal) (drop l.node-index l.nodes))
