use Rattle.std.proofs.Common.{[], ◌∷◌, ◌++◌, replicate, ap, ◌∙◌}
use Rattle.std.proofs.lemmas.List.{replicate_more}
use Rattle.event_rule.specs.State.{Link, no_link}
use Rattle.event_rule.proofs.Parts.{counted}
use Rattle.event_machine.proofs.links.row.Goals as goal

pub loop-preserved : goal.loop-preserved
loop-preserved g c =
    let n = c.loop.counter in
    c.in_ok-push.ensures.items
    ∙ ap (λ l. l ++ (c.new.result ∷ [])) c.loop.invariant
    ∙ ap (λ (link : Link _). replicate n no_link ++ (link ∷ [])) c.new.ensures.empty
    ∙ replicate_more n no_link

pub returns : goal.returns
returns g c =
    record { row = c.loop.invariant ∙ ap (λ n. replicate n no_link) (counted c.loop.counter c.args.degree c.loop.auto.counter-end c.loop-test.false) }
