use Rattle.std.proofs.Common.{max, fold, ap, ◌∙◌}
use Rattle.interference.proofs.BarRows.{packed-bars, sum-small}
use Rattle.interference.proofs.bars.packed_bars.Goals as goal

pub starts_of-starts-requires : goal.starts_of-starts-requires
starts_of-starts-requires c =
    sum-small c.args.nodes c.args.bars.now c.in_ok-counts.counts.items c.requires.fit c.requires.nodes c.in_ok-counts.ensures.size c.in_ok-counts.ensures.each

pub returns : goal.returns
returns c =
    rw c.in_ok-colours.ensures (packed-bars c.args.nodes c.args.bars.now c.requires.fit c.in_ok-counts.counts.items c.starts_of-starts.result.items
    c.in_ok-counts.ensures.size c.in_ok-counts.ensures.each c.starts_of-starts.ensures.size c.starts_of-starts.ensures.each
    c.greatest-greatest.result (c.greatest-greatest.ensures ∙ ap (fold max 0) c.deref.ensures.value))
