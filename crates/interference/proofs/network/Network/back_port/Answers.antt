use Rattle.std.proofs.Common.{◌<◌, ◌+◌, arith, length}
use Rattle.interference.proofs.Backs.{back_within, back_reads, back_below}
use Rattle.interference.proofs.network.Network.back_port.Goals as goal

pub index-requires-2 : goal.index-requires-2
index-requires-2 c = let s = c.self.inside in
    let w : c.index.result.now + c.args.port < length s.backs.items =
    back_within s.ids.items s.starts.items s.ports.items s.bars.starts.items s.bars.colours.items s.again
    c.self.invariant.packed c.args.self.now c.self.view_is c.args.v c.requires.vertex s.backs.items
    c.self.invariant.backs_lead c.args.port c.requires.port _ c.index.ensures in omega (arith, s.backs.ok.0)

pub returns-clause-value : goal.returns-clause-value
returns-clause-value c = let s = c.self.inside in
    back_reads s.ids.items s.starts.items s.ports.items s.bars.starts.items s.bars.colours.items s.again
    c.self.invariant.packed c.args.self.now c.self.view_is c.args.v c.requires.vertex s.backs.items
    c.self.invariant.backs_lead c.args.port c.requires.port _ c.index.ensures _ c.index-2.ensures

pub returns-clause-port : goal.returns-clause-port
returns-clause-port c = let s = c.self.inside in
    back_below s.ids.items s.starts.items s.ports.items s.bars.starts.items s.bars.colours.items s.again
    c.self.invariant.packed c.args.self.now c.self.view_is c.args.v c.requires.vertex s.backs.items
    c.self.invariant.backs_lead c.args.port c.requires.port _ c.index.ensures _ c.index-2.ensures
