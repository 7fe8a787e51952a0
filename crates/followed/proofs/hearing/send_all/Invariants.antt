use Rattle.std.specs.Prelude.{None}
use Rattle.node_api.proofs.Outboxes.{Told}
use Rattle.followed.specs.Said.{said}
use Rattle.followed.proofs.hearing.send_all.Given as goal

abbrev pub invariant-loop-port : goal.invariant-loop-port
invariant-loop-port g l = Told said None l.own l.port l.out
