use Rattle.std.proofs.Common.{ap}
use Rattle.outcomes.specs.Meets.{history_of_met}
use Rattle.outcomes.specs.Outcome.{no_history}
use Rattle.outcomes.proofs.LinkIn.{place_fits, port_there, row_there, thing_is}
use Rattle.outcomes.proofs.outcome.Outcome.link.Goals as goal

pub overflow_sub-vertex : goal.overflow_sub-vertex
overflow_sub-vertex g c = c.requires.vertex.0

pub overflow_cast-vertex : goal.overflow_cast-vertex
overflow_cast-vertex g c = place_fits c.args.vertex c.ranges.vertex

pub index-requires : goal.index-requires
index-requires g c =
    let rows = c.self.inside.links in
    row_there (λ row. row.items) history_of_met rows.items c.args.self.now.links (ap (λ o. o.links) c.self.view_is) c.args.vertex
    c.requires.vertex _ rows.ok.0

pub index-requires-2 : goal.index-requires-2
index-requires-2 g c =
    let row = c.index.result.now in
    port_there (λ row. row.items) history_of_met c.self.inside.links.items c.args.self.now.links (ap (λ o. o.links) c.self.view_is)
    c.args.vertex c.requires.vertex row c.index.ensures c.args.port _ row.ok.0 c.requires.port

pub returns : goal.returns
returns g c = record {
  link = thing_is (λ row. row.items) history_of_met c.self.inside.links.items c.args.self.now.links (ap (λ o. o.links) c.self.view_is)
      c.args.vertex c.requires.vertex c.index.result.now c.index.ensures c.args.port c.index-2.result.now no_history c.requires.port
      c.index-2.ensures;
}
