use Rattle.std.proofs.Common.{sym, ◌∙◌}
use Rattle.wired_nodes.proofs.links.Links.was_full.Goals as goal

-- the link of the index is the one out of the vertex by the port
pub returns-clause-full : goal.returns-clause-full
returns-clause-full g c = λ yes.
    let end = c.args.end.now in
    (c.link.result.now, end.place.queue ∙ sym end.link ∙ c.link.ensures.link, c.was_full.ensures.full yes)
