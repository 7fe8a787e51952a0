use Rattle.std.proofs.Common.{◌≡◌, ◌<◌, ℕ, None, false, true}
use Rattle.wired_nodes.specs.Blocked.{IsUnmoved, PutBlocked}
use Rattle.wired_nodes.specs.Counted.{CountsOn, events_of}
use Rattle.wired_nodes.proofs.node.Node.put_all.Given as goal

abbrev pub invariant-loop-port : goal.invariant-loop-port
invariant-loop-port g l = record {
  vertex : l.self.vertex ≡ l.fn.self.vertex;
  going : l.self.aside ≡ None;
  degree : l.self.degree ≡ l.fn.self.degree;
  refusal : l.self.refusal ≡ l.fn.self.refusal;
  counts : CountsOn l.fn.self l.self;
  moved : l.put ≡ true → events_of l.fn.self < events_of l.self;
  unmoved : l.put ≡ false → IsUnmoved l.fn.self l.self;
  blocked : l.put ≡ false → (k : ℕ) → k < l.port → PutBlocked k l.fn.self;
}
