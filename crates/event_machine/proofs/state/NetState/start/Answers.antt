use Rattle.event_machine.proofs.Held.{simulation}
use Rattle.event_machine.proofs.Started.{keeps_started, view_started}
use Rattle.event_machine.proofs.state.NetState.start.Goals as goal

pub invariant_of-result : goal.invariant_of-result
invariant_of-result g c =
    keeps_started g.P.NodeProgram.program c.args.net.now c.in_ok-nodes.ensures.network c.in_ok-net.net c.in_ok-nodes.nodes.items c.in_ok-links.links
    c.in_ok-net.ensures c.in_ok-nodes.ensures.nodes c.in_ok-links.ensures.links

pub returns-clause-start : goal.returns-clause-start
returns-clause-start g c =
    view_started g.P.NodeProgram.program c.args.net.now c.in_ok-nodes.ensures.network c.in_ok-net.net c.in_ok-nodes.nodes.items c.in_ok-links.links
    c.in_ok-net.ensures c.in_ok-nodes.ensures.nodes c.in_ok-links.ensures.links

pub returns-clause-simulates : goal.returns-clause-simulates
returns-clause-simulates g c =
    let m = g.P.NodeProgram in
    simulation m.program m.laws c.in_ok-net.net c.in_ok-nodes.nodes.items c.in_ok-links.links
    (keeps_started m.program c.args.net.now c.in_ok-nodes.ensures.network c.in_ok-net.net c.in_ok-nodes.nodes.items c.in_ok-links.links
    c.in_ok-net.ensures c.in_ok-nodes.ensures.nodes c.in_ok-links.ensures.links)
