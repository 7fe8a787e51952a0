use Rattle.std.proofs.Common.{◌≡◌, ◌∙◌, IfOk, List, ℕ, ap, map, subst}
use Rattle.interference.specs.Net.{vertices}
use Rattle.node_api.specs.Program.{last_pulse_on}
use Rattle.node_api.specs.Run.{state_at}
use Rattle.channel_plan.specs.PlanText.{plan_of}
use Rattle.colour_rules.specs.Node.{Node}
use Rattle.colour_rules.specs.Program.{colouring}
use Rattle.colour_laws.specs.Colours.{colours}
use Rattle.plan_answers.proofs.AtVertices.{at-vertices}
use Rattle.plan_answers.proofs.colours_text.text_of_plan.Goals as goal

pub returns : goal.returns
returns c =
    let net = c.args.network.now in
    let merged : Node → ℕ = λ node. node.merged in
    let at_end : ℕ → Node = state_at colouring net (last_pulse_on colouring net) in
    let read : map merged (map at_end (vertices net)) ≡ map (colours net) (vertices net) =
    at-vertices net merged at_end (colours net) (c.rounds_end_with_the_colours.ensures net c.requires) in
    subst (λ (all : List ℕ). IfOk c.text_of_nodes.result (λ text. text.items ≡ plan_of all))
    (ap (map merged) (c.as_slice.ensures.value ∙ c.in_ok-nodes.ensures.states) ∙ read)
    c.text_of_nodes.ensures
