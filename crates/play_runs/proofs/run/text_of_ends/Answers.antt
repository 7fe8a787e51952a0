use Rattle.std.proofs.Common.{◌∙◌, ◌++◌, ◌∷◌, [], ap, ap₂, flat_map, map, subst, sym, take}
use Rattle.std.proofs.lemmas.List.{flat_map_more, map-append, take_more}
use Rattle.interference.specs.Net.{IsVertex}
use Rattle.outcomes.specs.Gathers.{gathered_of}
use Rattle.play_runs.specs.Ends.{end_line, gathered_end}
use Rattle.play_runs.proofs.Ran.{all-at}
use Rattle.play_runs.proofs.run.text_of_ends.Goals as goal

-- each node is of a vertex
pub push_end-requires-clause-vertex : goal.push_end-requires-clause-vertex
push_end-requires-clause-vertex g c κs within =
    subst (IsVertex c.args.net.now) (sym c.node.ensures.vertex)
    (subst (λ actor. IsVertex c.args.net.now (gathered_of actor).vertex) (sym c.actor-item.is)
    (all-at (λ n. IsVertex c.args.net.now n.vertex) gathered_of c.args.actors.now c.loop-actor.actor-index _ c.loop-actor-test.true c.requires.vertices))

-- the line of one node more
pub loop-actor-preserved : goal.loop-actor-preserved
loop-actor-preserved g c =
    let actors = c.args.actors.now in
    let i = c.loop-actor.actor-index in
    let actor = c.actor-item.result in
    let before = map gathered_of (take i actors) in
    let texts = g.P.ProgramText.texts in
    let net = c.args.net.now in
    let so_far = c.loop-actor.text.items in
    c.in_ok-push_end.ensures
    ∙ ap (λ v. so_far ++ end_line texts net v c.pulse_number.result c.program.result.now) c.node.ensures.vertex
    ∙ ap₂ (λ p state. so_far ++ end_line texts net (gathered_of actor).vertex p state)
    (c.pulse_number.ensures.pulse ∙ ap (λ alpha. alpha.node.view.pulse) c.alpha-node.ensures.alpha)
    (c.program.ensures.state ∙ ap (λ alpha. alpha.node.state) c.alpha-node.ensures.alpha)
    ∙ ap (λ l. l ++ gathered_end texts net (gathered_of actor)) c.loop-actor.invariant
    ∙ flat_map_more (gathered_end texts net) [] before (gathered_of actor)
    ∙ ap (flat_map (gathered_end texts net)) (sym (map-append gathered_of (take i actors) (actor ∷ []))
    ∙ ap (map gathered_of) (ap (λ a. take i actors ++ (a ∷ [])) c.actor-item.is ∙ sym (take_more actors i actor c.loop-actor-test.true)))
