use Rattle.checks.proofs.SmallNets.{first_legal}
use Rattle.checks.proofs.link_queue_checks.greatest_is_handed_over.Goals as goal

pub one_after_another-requires-clause-legal : goal.one_after_another-requires-clause-legal
one_after_another-requires-clause-legal g c κs within = first_legal
