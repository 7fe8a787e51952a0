use Rattle.std.proofs.Common.{◌≤◌, ◌<◌, ◌+◌, ◌*◌, arith, length}
use Rattle.graph_limits.specs.declared.limits.TheConstants.{MAX_EDGES}
use Rattle.interference.proofs.Packed.{neighbour_within, neighbour_reads, neighbour_vertex}
use Rattle.interference.proofs.network.Network.neighbour.Goals as goal

pub overflow_add-index : goal.overflow_add-index
overflow_add-index c = let s = c.self.inside in
    let w : c.index.result.now + c.args.port < length s.ports.items =
    neighbour_within s.ids.items s.starts.items s.ports.items s.bars.starts.items s.bars.colours.items s.again
    c.self.invariant.packed c.args.self.now c.self.view_is c.args.v c.requires.vertex c.args.port
    c.requires.port _ c.index.ensures in
    let limit : length s.ports.items ≤ 2 * MAX_EDGES = c.self.invariant.packed.limit in
    omega arith

pub index-requires-2 : goal.index-requires-2
index-requires-2 c = let s = c.self.inside in
    let w : c.index.result.now + c.args.port < length s.ports.items =
    neighbour_within s.ids.items s.starts.items s.ports.items s.bars.starts.items s.bars.colours.items s.again
    c.self.invariant.packed c.args.self.now c.self.view_is c.args.v c.requires.vertex c.args.port
    c.requires.port _ c.index.ensures in omega (arith, s.ports.ok.0)

pub returns-clause-value : goal.returns-clause-value
returns-clause-value c = let s = c.self.inside in
    neighbour_reads s.ids.items s.starts.items s.ports.items s.bars.starts.items s.bars.colours.items s.again
    c.self.invariant.packed c.args.self.now c.self.view_is c.args.v c.requires.vertex c.args.port
    c.requires.port _ c.index.ensures _ c.index-2.ensures

pub returns-clause-vertex : goal.returns-clause-vertex
returns-clause-vertex c = let s = c.self.inside in
    neighbour_vertex s.ids.items s.starts.items s.ports.items s.bars.starts.items s.bars.colours.items s.again
    c.self.invariant.packed c.args.self.now c.self.view_is c.args.v c.requires.vertex c.args.port
    c.requires.port _ c.index.ensures _ c.index-2.ensures
