use Rattle.link_rule.specs.Legal.{IsLegalOn}
use Rattle.link_queue.specs.Queued.{stamped_of}
use Rattle.link_queue.specs.Rule.{Linked}
use Rattle.link_queue.proofs.Mapped.{mapped_pops}
use Rattle.link_queue.proofs.Rules.{takes, legal_begin}
use Rattle.link_queue.proofs.link.Link.try_take.Goals as goal

pub try_pop_as-requires-clause-rule : goal.try_pop_as-requires-clause-rule
try_pop_as-requires-clause-rule g c =
    let program = g.P.NodeProgram.program in
    let legal = IsLegalOn program in
    mapped_pops stamped_of (Linked legal) _ _ _ (takes legal _ _ c.args.end.now.takes.1 (legal_begin program))
