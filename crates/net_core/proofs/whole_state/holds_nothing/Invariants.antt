use Rattle.std.proofs.Common.{◌≡◌, ◌<◌, ℕ, []}
use Rattle.event_rule.specs.State.{link_at}
use Rattle.net_core.proofs.whole_state.holds_nothing.Given as goal

abbrev pub invariant-loop-port : goal.invariant-loop-port
invariant-loop-port g l = (i : ℕ) → i < l.port → (link_at l.state.state.links l.v i).held ≡ []
