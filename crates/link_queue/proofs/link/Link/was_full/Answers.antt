use Rattle.link_rule.specs.Legal.{IsLegalOn}
use Rattle.link_queue.specs.Queued.{stamped_of}
use Rattle.link_queue.specs.Rule.{Linked}
use Rattle.link_queue.proofs.Mapped.{mapped_held, mapped_learns}
use Rattle.link_queue.proofs.Rules.{fronts}
use Rattle.link_queue.proofs.link.Link.was_full.Goals as goal

pub is_full_as-requires-clause-rule : goal.is_full_as-requires-clause-rule
is_full_as-requires-clause-rule g c =
    let legal = IsLegalOn g.P.NodeProgram.program in
    mapped_learns stamped_of (Linked legal) _ _ _ (fronts legal _ _ c.args.end.now.puts.1)

-- the queue was full of items, and so of wires
pub returns-clause-full : goal.returns-clause-full
returns-clause-full g c = λ full. mapped_held stamped_of _ _ (c.is_full_as.ensures.rule full)
