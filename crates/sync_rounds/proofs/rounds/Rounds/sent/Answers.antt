use Rattle.std.proofs.Common.{◌≡◌, ◌<◌, ◌∙◌, subst}
use Rattle.interference.specs.Net.{IsVertex, degree_of}
use Rattle.node_api.specs.Boxes.{at_port}
use Rattle.node_api.specs.Run.{outbox_at}
use Rattle.sync_rounds.specs.Rounds.{AtPulse}
use Rattle.sync_rounds.proofs.Steps.{sent-in}
use Rattle.sync_rounds.proofs.rounds.Rounds.sent.Goals as goal

pub returns : goal.returns
returns g c =
    let m = g.P.NodeProgram in
    let inside = c.self.inside in
    let v = c.args.v in
    let port = c.args.port in
    record {
      payload = subst (λ (at : AtPulse). IsVertex at.net c.args.v → c.args.port < degree_of at.net c.args.v
          → c.get.result ≡ at_port (outbox_at m.program at.net at.pulse c.args.v) c.args.port) c.self.view_is
          (λ is_vertex below. c.get.ensures.payload
          ∙ sent-in m.program inside.net.now c.self.invariant.network inside.pulse inside.kept.inboxes.items v port c.neighbour-w.result c.back_port.result
          c.index.result.now c.self.invariant.at.next is_vertex below c.neighbour-w.ensures.value c.back_port.ensures.value c.index.ensures)
          c.requires.vertex c.requires.port;
    }
