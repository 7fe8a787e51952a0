use Rattle.std.proofs.Common.{◌∙◌, ap, arith, subst}
use Rattle.interference.specs.Net.{IsNetwork}
use Rattle.alpha_core.proofs.PortLists.{can-below}
use Rattle.alpha_laws.proofs.Runs.{runs}
use Rattle.node_api.specs.Program.{last_pulse_on}
use Rattle.event_rule.specs.State.{node_of}
use Rattle.event_rule.proofs.KeptRuns.{reached_kept}
use Rattle.lone_runs.proofs.recording.next_pulse.Goals as goal

-- a node that can pulse isn't at the last one
pub returns-else-pulse-last_pulse-clause-none : goal.returns-else-pulse-last_pulse-clause-none
returns-else-pulse-last_pulse-clause-none g c = λ can.
    let m = g.P.NodeProgram in
    let at = c.args.state.now in
    let ok = subst IsNetwork c.network-net.ensures.network c.nodes.ensures.network in
    let kept = reached_kept ok (runs m.program m.laws at.net ok) at.state c.is_simulation.ensures.reached in
    let view = (node_of m.program at.net at.state c.args.v).view in
    let below = can-below (last_pulse_on m.program at.net) view (kept.each c.args.v c.requires.vertex).ports.within can in
    let pulse = c.pulse_number-pulse.ensures.pulse ∙ ap (λ n. n.view.pulse) c.node-node.ensures.node in
    let last = c.last_pulse.ensures.last ∙ ap (λ n. last_pulse_on m.program n) c.network-net.ensures.network in
    omega (arith, below, pulse, last, c.if-pulse-last_pulse.false)
