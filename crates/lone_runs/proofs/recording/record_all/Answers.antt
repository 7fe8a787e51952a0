use Rattle.std.proofs.Common.{◌∙◌, ap, arith}
use Rattle.alpha_laws.specs.Counts.{events_of_run}
use Rattle.event_rule.specs.Progress.{events_in}
use Rattle.lone_runs.proofs.Events.{smaller}
use Rattle.lone_runs.proofs.recording.record_all.Goals as goal

pub loop-did-smaller : goal.loop-did-smaller
loop-did-smaller g c =
    smaller g.P.NodeProgram.program c.in_ok-did.ensures.went c.if-not-did.false c.in_ok-did.ensures.bounded

-- there were at least as many events as ticks, and so fewer ticks than 2^60
pub overflow_add-stamp : goal.overflow_add-stamp
overflow_add-stamp g c =
    let program = g.P.NodeProgram.program in
    let at = c.record_tick.new.recording.state in
    let went = c.in_ok-did.ensures.went in
    let more = went.more c.if-not-did.false in
    let same = ap (λ n. events_in program n at.state) went.net in
    let few = c.runs_are_short.ensures.short in
    let net = ap (λ n. events_of_run program n) c.network.ensures.network in
    omega (arith, c.loop-did.invariant.low, more, same, c.in_ok-did.ensures.bounded, few, net)

pub loop-did-preserved : goal.loop-did-preserved
loop-did-preserved g c =
    let program = g.P.NodeProgram.program in
    let at = c.record_tick.new.recording.state in
    let went = c.in_ok-did.ensures.went in
    let more = went.more c.if-not-did.false in
    let same = ap (λ n. events_in program n at.state) went.net in
    record {
      recorded = c.in_ok-did.ensures.recorded;
      net = went.net ∙ c.loop-did.invariant.net;
      tick = c.in_ok-did.ensures.next;
      low = omega (arith, c.loop-did.invariant.low, more, same);
    }
