-- Every node of the run knows the sizes of its network.
use Rattle.std.proofs.Common.{◌≡◌, ◌∙◌, ℕ, zero, suc, List, Option, Some, None, ap, refl}
use Rattle.interference.specs.Net.{Net, degree_of}
use Rattle.node_api.specs.Program.{sizes_of}
use Rattle.node_api.specs.Run.{after, inbox_from, node_at, state_at}
use Rattle.node_api.specs.declared.program.Refused.{Refused}
use Rattle.node_api.proofs.Runs.{node_at-more, node_at-none}
use Rattle.colour_rules.specs.declared.payload.Payload.{Payload}
use Rattle.colour_rules.specs.declared.phase.Phase.{Phase}
use Rattle.colour_rules.specs.declared.phase.Phase.TheVariants.{Greet, Orient, Seed, Work, Merge, Halted}
use Rattle.colour_rules.specs.Node.{Node, phase_of}
use Rattle.colour_rules.specs.Program.{answered, colouring, work_of}
use Rattle.colour_rules.specs.Refusals.{refusal}

done-sizes : (node : Node) (phase : Phase) (inbox : List (Option Payload)) → (work_of node phase inbox).0.sizes ≡ node.sizes
done-sizes node Greet inbox = refl
done-sizes node Orient inbox = refl
done-sizes node Seed inbox = refl
done-sizes node (Work reduction) inbox = refl
done-sizes node (Merge f s) inbox = refl
done-sizes node Halted inbox = refl

after-sizes : (node : Node) (degree : ℕ) (r : Option Refused) (next : Node × List (Option Payload)) → next.0.sizes ≡ node.sizes →
    (after node degree (answered r next)).0.sizes ≡ node.sizes
after-sizes node degree None next same = same
after-sizes node degree (Some refused) next same = refl

pub sizes_at : (net : Net) (p v : ℕ) → (state_at colouring net p v).sizes ≡ sizes_of net
sizes_at net zero v = ap (λ (node : Node × List (Option Payload)). node.0.sizes) (node_at-none colouring net v)
sizes_at net (suc p) v =
    let node : Node = state_at colouring net p v in
    let inbox = inbox_from net (node_at colouring net p) v in
    let phase = phase_of node.sizes (suc p) in
    ap (λ (node : Node × List (Option Payload)). node.0.sizes) (node_at-more colouring net p v)
    ∙ (after-sizes node (degree_of net v) (refusal node phase inbox) (work_of node phase inbox) (done-sizes node phase inbox)
    ∙ sizes_at net p v)
