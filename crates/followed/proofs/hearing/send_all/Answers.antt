use Rattle.std.proofs.Common.{arith}
use Rattle.node_api.proofs.Outboxes.{told-all}
use Rattle.followed.proofs.hearing.send_all.Goals as goal

pub returns : goal.returns
returns g c = record { told = told-all c.loop-port.invariant (omega (arith, c.requires.degree, c.loop-port-test.false)) }
