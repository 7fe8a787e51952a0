use Rattle.std.proofs.Common.{◌≡◌, ◌∙◌, ℕ, ap, flat_map, subst}
use Rattle.interference.specs.Net.{IsVertex, vertices}
use Rattle.alpha_laws.specs.Progress.{end_node}
use Rattle.event_rule.specs.State.{node_of}
use Rattle.play_runs.specs.Ends.{node_end}
use Rattle.play_runs.proofs.Ended.{ends-answer}
use Rattle.play_runs.proofs.ends.alone_bytes.Goals as goal

-- the nodes have ended
pub returns-clause-ok : goal.returns-clause-ok
returns-clause-ok g c =
    let program = g.P.NodeProgram.program in
    let texts = g.P.ProgramText.texts in
    let net = c.in_ok-network.network in
    let at = c.in_ok-state.state in
    let same : at.net ≡ net = c.in_ok-state.ensures.network in
    ends-answer program texts net (node_of program net at.state)
    (subst (λ n. (v : ℕ) → IsVertex n v → node_of program n at.state v ≡ end_node program n v) same c.in_ok-state.ensures.ended.nodes_are)
    c.args.setting c.args.input.now c.in_ok-text_of_ends.field-0.items c.in_ok-network.ensures.ok
    (c.in_ok-text_of_ends.ensures.text ∙ ap (λ n. flat_map (λ v. node_end texts n v (node_of program n at.state v)) (vertices n)) same)
    c.rounds_solve.ensures.law
