use Rattle.std.proofs.Common.{◌∙◌, ◌++◌, ◌∷◌, [], ap, map, sym, take}
use Rattle.std.proofs.lemmas.List.{map_more, take_all}
use Rattle.std.proofs.lemmas.Result.{IfOk-from_err}
use Rattle.outcomes.specs.Gathers.{gathered_of}
use Rattle.plan_runs.specs.Colours.{merged_of}
use Rattle.plan_runs.proofs.plan_text.colours_of.Goals as goal

pub loop-actor-init : goal.loop-actor-init
loop-actor-init c = c.new-all.ensures.items

-- the colour of one node more
pub loop-actor-preserved : goal.loop-actor-preserved
loop-actor-preserved c =
    let actors = c.args.actors.now in
    let i = c.loop-actor.actor-index in
    let actor = c.actor-item.result in
    let colour = c.colour.ensures ∙ ap (λ state. state.merged) (c.program.ensures.state ∙ ap (λ alpha. alpha.node.state) c.alpha.ensures.alpha) in
    c.in_ok-push.ensures.items
    ∙ ap (λ l. l ++ (c.colour.result ∷ [])) c.loop-actor.invariant
    ∙ ap (λ x. map (λ a. merged_of (gathered_of a)) (take i actors) ++ (x ∷ []))
    (colour ∙ ap (λ a. merged_of (gathered_of a)) c.actor-item.is)
    ∙ sym (map_more (λ a. merged_of (gathered_of a)) actors i actor c.loop-actor-test.true)

pub returns : goal.returns
returns c =
    c.loop-actor.invariant
    ∙ ap (map (λ a. merged_of (gathered_of a))) (take_all c.loop-actor.actor-index c.args.actors.now c.loop-actor-test.false)

pub returns-in_err-push : goal.returns-in_err-push
returns-in_err-push c = IfOk-from_err c.from_residual.result _ c.from_residual.ensures.0
