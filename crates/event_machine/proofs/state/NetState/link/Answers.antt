use Rattle.std.proofs.Common.{◌<◌, sym, subst}
use Rattle.interference.specs.Net.{IsVertex, degree_of}
use Rattle.event_machine.proofs.Held.{has_link}
use Rattle.event_machine.proofs.state.NetState.link.Goals as goal

pub parts-requires : goal.parts-requires
parts-requires g c =
    let m = g.P.NodeProgram in
    let a = c.self.inside in
    let vertex : IsVertex a.net c.args.v = subst (λ s. IsVertex s.net c.args.v) (sym c.self.view_is) c.requires.vertex in
    let lt : c.args.port < degree_of a.net c.args.v = subst (λ s. c.args.port < degree_of s.net c.args.v) (sym c.self.view_is) c.requires.port in
    record { link = has_link m.program m.laws a.net a.nodes.items a.links c.self.invariant c.args.v c.args.port vertex lt }
