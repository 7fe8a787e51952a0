use Rattle.interference.proofs.Repeated.{stored_repeated}
use Rattle.interference.proofs.network.Network.repeating.Goals as goal

pub invariant_of-self : goal.invariant_of-self
invariant_of-self c =
    let s = c.self.inside in
    stored_repeated c.args.again s.ids.items s.starts.items s.ports.items s.backs.items s.bars.starts.items s.bars.colours.items
    s.again s.greatest_degree s.forest_count s.bars.greatest c.self.invariant
