use Rattle.std.proofs.Common.{◌≡◌, map, take}
use Rattle.interference.specs.Making.{colour_of}
use Rattle.interference.proofs.bars.colours_of.Given as goal

abbrev pub invariant-loop-bar : goal.invariant-loop-bar
invariant-loop-bar l = l.colours.items ≡ map colour_of (take l.bar-index l.bars)
