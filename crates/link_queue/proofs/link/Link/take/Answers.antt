use Rattle.link_rule.specs.Legal.{IsLegalOn}
use Rattle.link_queue.specs.Queued.{stamped_of}
use Rattle.link_queue.specs.Rule.{Linked}
use Rattle.link_queue.proofs.Mapped.{mapped_pops, mapped_learns, mapped_held}
use Rattle.link_queue.proofs.Rules.{takes, backs, legal_begin}
use Rattle.link_queue.proofs.link.Link.take.Goals as goal

pub pop_as-requires-clause-rule : goal.pop_as-requires-clause-rule
pop_as-requires-clause-rule g c =
    let program = g.P.NodeProgram.program in
    let legal = IsLegalOn program in
    let may = c.args.end.now.takes.1 in (
      mapped_pops stamped_of (Linked legal) _ _ _ (takes legal _ _ may (legal_begin program)),
      mapped_learns stamped_of (Linked legal) _ _ _ (backs legal _ _ may),
    )

-- the queue was empty of items, and so of wires
pub returns-in-None-clause-empty : goal.returns-in-None-clause-empty
returns-in-None-clause-empty g c = mapped_held stamped_of _ _ c.in-None.ensures.rule.1
