use Rattle.std.proofs.Common.{◌∙◌, ◌++◌, ◌∷◌, [], ap, map, sym, take}
use Rattle.std.proofs.lemmas.List.{map-append, take_all, take_more}
use Rattle.std.proofs.lemmas.Result.{IfOk-from_err}
use Rattle.outcomes.specs.Gathers.{gathered_of}
use Rattle.plan_runs.proofs.merged.lefts_of.Goals as goal

-- the entries of one node more
pub loop-actor-preserved : goal.loop-actor-preserved
loop-actor-preserved g c =
    let actors = c.args.actors.now in
    let i = c.loop-actor.actor-index in
    let actor = c.actor-item.result in
    let before = map gathered_of (take i actors) in
    let wrote = c.new.ensures ∙ c.stamped.ensures.items ∙ ap (λ entries. entries.items) c.entries.ensures.entries in
    c.in_ok-push.ensures.items ∙ ap (λ l. l ++ (c.new.result ∷ [])) c.loop-actor.invariant
    ∙ ap (λ l. map (λ node. node.entries) before ++ (l ∷ [])) wrote
    ∙ sym (map-append (λ node. node.entries) before (gathered_of actor ∷ []))
    ∙ ap (map (λ node. node.entries)) (sym (map-append gathered_of (take i actors) (actor ∷ []))
    ∙ ap (map gathered_of) (ap (λ a. take i actors ++ (a ∷ [])) c.actor-item.is ∙ sym (take_more actors i actor c.loop-actor-test.true)))

pub loop-actor-init : goal.loop-actor-init
loop-actor-init g c = c.new-lefts.ensures.items

pub returns : goal.returns
returns g c =
    c.loop-actor.invariant
    ∙ ap (λ actors. map (λ node. node.entries) (map gathered_of actors))
    (take_all c.loop-actor.actor-index c.args.actors.now c.loop-actor-test.false)

pub returns-in_err-push : goal.returns-in_err-push
returns-in_err-push g c = IfOk-from_err c.from_residual.result _ c.from_residual.ensures.0
