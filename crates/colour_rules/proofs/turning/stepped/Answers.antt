use Rattle.std.proofs.Common.{◌<◌, arith}
use Rattle.cole_vishkin.specs.Digits.{digit}
use Rattle.cole_vishkin.proofs.DigitLemmas.{digit-small}
use Rattle.colour_rules.proofs.turning.stepped.Goals as goal

pub overflow_cast-result : goal.overflow_cast-result
overflow_cast-result c =
    let low : digit 0 c.args.own < 2 = digit-small 0 c.args.own in
    omega (arith, low, c.bit_step.ensures)
