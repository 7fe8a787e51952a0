use Rattle.std.proofs.Common.{◌≡◌, ◌<◌, None, Ok, false}
use Rattle.std.specs.Prelude.{IsSome}
use Rattle.wired_nodes.specs.Blocked.{HasTakeRoom}
use Rattle.wired_nodes.specs.Stepped.{Stepped}
use Rattle.wired_nodes.proofs.node.Node.take_all.Given as goal

abbrev pub invariant-loop-port : goal.invariant-loop-port
invariant-loop-port g l = record {
  stepped : Stepped l.fn.self l.self (Ok l.took);
  stopped : IsSome l.fn.self.aside → l.took ≡ false;
  room : l.took ≡ false → l.self.aside ≡ None → 0 < l.port → HasTakeRoom l.self;
}
