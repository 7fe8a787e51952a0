use Rattle.std.proofs.Common.{◌∙◌, ap, false, flat_map, subst, sym}
use Rattle.std.proofs.lemmas.Result.{err_from_is_err_and}
use Rattle.std.specs.Prelude.{All}
use Rattle.interference.specs.Net.{IsVertex}
use Rattle.play_runs.specs.Ends.{gathered_end}
use Rattle.play_runs.proofs.Ran.{are-vertices, ends-answer}
use Rattle.play_runs.proofs.Working.{workers-fault}
use Rattle.play_runs.proofs.run.run_bytes.Goals as goal

-- the nodes of an outcome are the vertices
pub text_of_ends-requires-clause-vertices : goal.text_of_ends-requires-clause-vertices
text_of_ends-requires-clause-vertices g c κs within =
    let net = c.in_ok-network.network in
    let outcome = c.in_ok-outcome.outcome in
    subst (λ gs. All (λ n. IsVertex net n.vertex) gs) (sym c.actors.ensures.nodes)
    (are-vertices g.P.NodeProgram.program net c.args.options.capacity false outcome c.in_ok-outcome.ensures.outcome)

-- the nodes of a whole outcome have ended
pub returns-clause-ok : goal.returns-clause-ok
returns-clause-ok g c =
    let net = c.in_ok-network.network in
    let outcome = c.in_ok-outcome.outcome in
    let capacity = c.args.options.capacity in
    let is = c.in_ok-outcome.ensures.outcome in
    let program = g.P.NodeProgram.program in
    let texts = g.P.ProgramText.texts in
    let ended = c.whole_outcomes_have_ended.ensures.law program g.P.NodeProgram.laws net c.in_ok-network.ensures.network capacity false outcome is
    c.in_ok-outcome.ensures.whole in
    ends-answer program texts net capacity false outcome is ended.nodes_are c.args.setting c.args.input.now c.in_ok-text_of_ends.field-0.items
    c.in_ok-network.ensures.ok
    (c.in_ok-text_of_ends.ensures ∙ ap (flat_map (gathered_end texts net)) c.actors.ensures.nodes)
    c.rounds_solve.ensures.law

pub returns-in_err-outcome-clause-fault : goal.returns-in_err-outcome-clause-fault
returns-in_err-outcome-clause-fault g c =
    let p = err_from_is_err_and c.from_residual-in_err-outcome.result c.from_residual-in_err-outcome.ensures.1 in
    rw (p.1, p.2) (workers-fault g.P.NodeProgram.program c.args.setting c.args.input.now c.in_ok-network.network c.args.options false
    c.in_err-outcome.field-0.0
    c.in_ok-network.ensures.ok c.in_err-outcome.ensures.fault)
