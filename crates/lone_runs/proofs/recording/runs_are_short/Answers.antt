use Rattle.event_rule.proofs.Short.{few-events}
use Rattle.lone_runs.proofs.recording.runs_are_short.Goals as goal

pub returns : goal.returns
returns g c = record {
  short = few-events g.P.NodeProgram.program c.args.net.now c.nodes-nodes.ensures.network c.last_pulse_of-last.ensures.short;
}
