use Rattle.std.proofs.Common.{◌+◌, ◌<◌, length, ◌∙◌, arith}
use Rattle.std.proofs.lemmas.List.{length-set}
use Rattle.interference.proofs.Neighbours.{degree-within}
use Rattle.sync_rounds.proofs.Resting.{degrees-more}
use Rattle.sync_rounds.proofs.boxes.degrees_of.Goals as goal

pub index_mut-requires : goal.index_mut-requires
index_mut-requires c =
    omega (
      arith,
      c.loop-i.invariant.size,
      c.loop-i.occurs.ok.0,
      c.degree-degree.ensures.value,
      degree-within c.args.net.now c.nodes-i-end.ensures.network (c.loop-i.i + 1),
    )

pub loop-i-preserved : goal.loop-i-preserved
loop-i-preserved c =
    let net = c.args.net.now in
    let below : c.degree-degree.result < length c.loop-i.occurs.items = omega (
      arith,
      c.loop-i.invariant.size,
      c.degree-degree.ensures.value,
      degree-within net c.nodes-i-end.ensures.network (c.loop-i.i + 1),
    ) in
    record {
      size = length-set _ _ _ ∙ c.loop-i.invariant.size;
      occurs = degrees-more net c.loop-i.i c.degree-degree.result c.loop-i.occurs.items below c.degree-degree.ensures.value c.loop-i.invariant.occurs;
    }
