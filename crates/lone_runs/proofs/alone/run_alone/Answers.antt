use Rattle.lone_runs.proofs.Events.{smaller}
use Rattle.lone_runs.proofs.alone.run_alone.Goals as goal

pub loop-state-smaller : goal.loop-state-smaller
loop-state-smaller g c =
    smaller g.P.NodeProgram.program c.in_ok-did.ensures.went c.if-not-did.false c.in_ok-did.ensures.bounded
