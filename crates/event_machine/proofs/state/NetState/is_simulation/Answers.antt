use Rattle.std.proofs.Common.{subst}
use Rattle.event_rule.specs.Simulation.{IsReachable, IsSimulation}
use Rattle.event_machine.proofs.Held.{simulation}
use Rattle.event_machine.proofs.state.NetState.is_simulation.Goals as goal

pub returns : goal.returns
returns g c =
    let m = g.P.NodeProgram in
    let a = c.self.inside in
    record {
      reached = subst (λ s. IsReachable m.program s.net s.state) c.self.view_is c.self.invariant.reached;
      simulates = subst (λ s. IsSimulation m.program s.net s.state) c.self.view_is
          (simulation m.program m.laws a.net a.nodes.items a.links c.self.invariant);
    }
