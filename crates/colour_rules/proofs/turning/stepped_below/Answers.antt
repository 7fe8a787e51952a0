use Rattle.std.proofs.Common.{◌<◌, Some, arith}
use Rattle.cole_vishkin.specs.BitStep.{bit_by}
use Rattle.colour_rules.proofs.Bytes.{bit-byte}
use Rattle.colour_rules.proofs.turning.stepped_below.Goals as goal

pub overflow_cast-result : goal.overflow_cast-result
overflow_cast-result c =
    let low : bit_by c.args.own (Some c.args.parent) < 256 = bit-byte c.args.own c.args.parent c.ranges.own.fits c.ranges.parent.fits c.requires in
    omega (arith, low, c.bit_step.ensures)
