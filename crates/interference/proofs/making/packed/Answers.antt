use Rattle.std.proofs.Common.{max, fold, ap, refl, ◌∙◌, arith}
use Rattle.interference.specs.Rows.{rows}
use Rattle.interference.specs.Filling.{IsFilled}
use Rattle.interference.proofs.Starting.{greatest_is}
use Rattle.interference.proofs.Packing.{length-rows, row_is, net_is, is_packed}
use Rattle.interference.proofs.PortsBack.{has_backs}
use Rattle.interference.proofs.making.packed.Goals as goal
use Rattle.interference.proofs.making.packed.Goals.{After-deref-3}

filled-by : (c : After-deref-3) →
    IsFilled c.args.nodes c.args.edges.now c.starts_of-starts.result.items c.in_ok-ports.ports.items c.in_ok-ports.backs.items
filled-by c = rw (← c.deref-2.ensures.value) c.in_ok-ports.ensures

pub forest_count-forest_count-requires : goal.forest_count-forest_count-requires
forest_count-forest_count-requires c =
    let filled = filled-by (goal.at.forest_count-forest_count-requires c).After-deref-3 in
    rw (c.deref-3.ensures.value, c.deref-4.ensures.value)
    (_, _, is_packed c.args.nodes c.args.edges.now _ _ _ filled c.args.ids.now c.requires.ids c.args.bars.now _ _ _ c.in_ok-bars.ensures c.requires.network)

pub invariant_of-result : goal.invariant_of-result
invariant_of-result c =
    let starts = c.starts_of-starts.result.items in
    let ports = c.in_ok-ports.ports.items in
    let filled = filled-by (goal.at.invariant_of-result c).After-deref-3 in
    record {
      packed =
          rw c.in_ok-ids.ensures.items (is_packed c.args.nodes c.args.edges.now _ _ _ filled c.args.ids.now c.requires.ids c.args.bars.now _ _ _
          c.in_ok-bars.ensures c.requires.network);
      backs_lead = rw c.in_ok-ids.ensures.items (has_backs c.args.nodes c.args.edges.now _ _ _ filled c.args.ids.now c.requires.ids _ _);
      degree_is =
          c.greatest-greatest_degree.ensures ∙ ap (fold max 0) c.deref.ensures.value
          ∙ greatest_is c.args.nodes c.args.edges.now c.args.degrees.items (rows starts ports) c.requires.edges c.requires.degrees
          (omega (arith, length-rows starts ports, filled.are.sizes)) (row_is c.args.nodes c.args.edges.now starts ports c.in_ok-ports.backs.items filled);
      forests_are =
          c.forest_count-forest_count.ensures ∙ rw (c.deref-3.ensures.value, c.deref-4.ensures.value, c.in_ok-ids.ensures.items) refl;
      most_is = c.in_ok-bars.ensures.greatest_is;
    }

pub returns-clause-made : goal.returns-clause-made
returns-clause-made c =
    let filled = filled-by (goal.at.returns-clause-made c).After-deref-3 in
    rw c.in_ok-ids.ensures.items (net_is c.args.nodes c.args.edges.now _ _ _ filled c.args.ids.now c.requires.ids c.args.bars.now _ _ _
    c.in_ok-bars.ensures)

pub returns-clause-network : goal.returns-clause-network
returns-clause-network c =
    let filled = filled-by (goal.at.returns-clause-network c).After-deref-3 in
    rw c.in_ok-ids.ensures.items (is_packed c.args.nodes c.args.edges.now _ _ _ filled c.args.ids.now c.requires.ids c.args.bars.now _ _ _
    c.in_ok-bars.ensures c.requires.network).network
