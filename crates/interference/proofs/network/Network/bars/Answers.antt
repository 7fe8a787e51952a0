use Rattle.interference.proofs.Backs.{bars_read}
use Rattle.interference.proofs.network.Network.bars.Goals as goal

pub returns-clause-value : goal.returns-clause-value
returns-clause-value c = let s = c.self.inside in
    rw c.deref.ensures.value (bars_read s.ids.items s.starts.items s.ports.items s.bars.starts.items s.bars.colours.items s.again c.self.invariant.packed
    c.args.self.now c.self.view_is c.args.v c.requires _ _ c.index-2.ensures c.index.ensures)
