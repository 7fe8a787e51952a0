use Rattle.std.proofs.Common.{arith, subst}
use Rattle.interference.specs.Net.{IsNetwork}
use Rattle.event_rule.specs.Events.{Possible}
use Rattle.lone_runs.proofs.Events.{one_event, impossible}
use Rattle.lone_runs.proofs.alone.attempt.Goals as goal

pub returns-in-Ok-clause-went : goal.returns-in-Ok-clause-went
returns-in-Ok-clause-went g c =
    let program = g.P.NodeProgram.program in
    let old = c.args.state.now in
    let ok = subst IsNetwork c.network.ensures.network c.nodes.ensures.network in
    let one = one_event program old.net g.P.NodeProgram.laws ok old.state c.step.new.self.state c.args.event
    c.is_simulation.ensures.reached c.in-Ok.ensures.step in
    record { net = c.in-Ok.ensures.net; more = λ e. omega (arith, one); none = λ e. absurd cc }

pub returns-else-is_memory-clause-stuck : goal.returns-else-is_memory-clause-stuck
returns-else-is_memory-clause-stuck g c = λ e can.
    let program = g.P.NodeProgram.program in
    let old = c.args.state.now in
    let ok = subst IsNetwork c.network.ensures.network c.nodes.ensures.network in
    impossible program old.net g.P.NodeProgram.laws ok old.state c.args.event c.in-Err.refused c.is_simulation.ensures.reached
    (c.in-Err.ensures.step (c.is_memory.ensures.memory c.if-is_memory.false))
    (subst (λ u. Possible program u.net u.state c.args.event) c.in-Err.ensures.refused can)
