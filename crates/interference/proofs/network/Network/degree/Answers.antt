use Rattle.std.proofs.Common.{◌≡◌, ◌≤◌, arith, ◌-◌}
use Rattle.interference.specs.Net.{degree_of}
use Rattle.interference.specs.declared.limits.TheConstants.{MAX_DEGREE}
use Rattle.interference.proofs.Packed.{degree_reads, degree-within_limit}
use Rattle.interference.proofs.network.Network.degree.Goals as goal

pub returns-clause-value : goal.returns-clause-value
returns-clause-value c = let s = c.self.inside in
    degree_reads s.ids.items s.starts.items s.ports.items s.bars.starts.items s.bars.colours.items s.again
    c.self.invariant.packed c.args.self.now c.self.view_is c.args.v c.requires _ _ c.index.ensures
    c.index-2.ensures

pub returns-clause-limit : goal.returns-clause-limit
returns-clause-limit c = let s = c.self.inside in
    let e : c.index.result.now - c.index-2.result.now ≡ degree_of c.args.self.now c.args.v =
    degree_reads s.ids.items s.starts.items s.ports.items s.bars.starts.items s.bars.colours.items s.again
    c.self.invariant.packed c.args.self.now c.self.view_is c.args.v c.requires _ _ c.index.ensures
    c.index-2.ensures in
    let l : degree_of c.args.self.now c.args.v ≤ MAX_DEGREE =
    degree-within_limit s.ids.items s.starts.items s.ports.items s.bars.starts.items s.bars.colours.items s.again
    c.self.invariant.packed c.args.self.now
    c.self.view_is c.args.v c.requires in
    omega arith
