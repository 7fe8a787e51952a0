use Rattle.checks.proofs.SmallNets.{pair_is}
use Rattle.checks.proofs.link_queue_checks.pair.Goals as goal

pub returns : goal.returns
returns g c = pair_is c.new.result c.new.ensures.made
