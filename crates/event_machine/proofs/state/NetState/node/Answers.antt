use Rattle.std.proofs.Common.{sym, ap, ◌∙◌, arith, subst}
use Rattle.interference.specs.Net.{IsVertex}
use Rattle.node_api.specs.Program.{last_pulse_on}
use Rattle.event_rule.specs.State.{node_of}
use Rattle.event_machine.proofs.Held.{in_nodes, last_is, node_is}
use Rattle.event_machine.proofs.state.NetState.node.Goals as goal

pub index-requires : goal.index-requires
index-requires g c =
    let m = g.P.NodeProgram in
    let a = c.self.inside in
    let vertex : IsVertex a.net c.args.v = subst (λ s. IsVertex s.net c.args.v) (sym c.self.view_is) c.requires.vertex in
    omega (arith, a.nodes.ok.0, in_nodes m.program m.laws a.net a.nodes.items a.links c.self.invariant c.args.v vertex)

pub returns : goal.returns
returns g c =
    let m = g.P.NodeProgram in
    let a = c.self.inside in
    let vertex : IsVertex a.net c.args.v = subst (λ s. IsVertex s.net c.args.v) (sym c.self.view_is) c.requires.vertex in
    record {
      node = node_is m.program m.laws a.net a.nodes.items a.links c.self.invariant c.args.v vertex c.index.result.now c.index.ensures
          ∙ ap (λ s. node_of m.program s.net s.state c.args.v) c.self.view_is;
      last = last_is m.program m.laws a.net a.nodes.items a.links c.self.invariant c.args.v vertex c.index.result.now c.index.ensures
          ∙ ap (λ s. last_pulse_on m.program s.net) c.self.view_is;
    }
