-- The node knows the sizes of its network, so the phase that it finds is that of the network.
use Rattle.std.proofs.Common.{◌≡◌, ◌∙◌, ◌++◌, ap, ap₂}
use Rattle.std.proofs.lemmas.Result.{IfOk-equal}
use Rattle.node_api.specs.Program.{Sizes, sizes_of}
use Rattle.colour_rules.specs.Node.{Node, phase_of}
use Rattle.colour_rules.specs.declared.phase.Phase.{Phase}
use Rattle.colour_program.specs.ColoursText.{node_text}
use Rattle.colour_program.proofs.Sizes.{sizes_at}
use Rattle.colour_program.proofs.colours_text.ColouringProgramText.push_lines.Goals as goal

pub returns : goal.returns
returns c =
    let net = c.args._net.now in
    let p = c.args.pulse in
    let v = c.args.v in
    let sizes = ap (λ (node : Node). node.sizes) (c.node-node.ensures ∙ c.requires.run) ∙ sizes_at net p v in
    let phase : c.phase.result ≡ phase_of (sizes_of net) p = c.phase.ensures.phase ∙ ap (λ (sizes : Sizes). phase_of sizes p) sizes in
    IfOk-equal c.push_node.result _ _ _ c.push_node.ensures
    (ap₂ (λ (phase : Phase) (node : Node). c.args.text.now.items ++ node_text phase v node) phase c.node-node.ensures)
