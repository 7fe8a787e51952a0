use Rattle.std.proofs.Common.{◌≡◌, ◌++◌, flat_map}
use Rattle.std.specs.List.{range_with_len}
use Rattle.colour_program.specs.ColoursText.{colour_text}
use Rattle.colour_program.proofs.colours_text.push_colours.Given as goal

abbrev pub invariant-loop-forest : goal.invariant-loop-forest
invariant-loop-forest l = l.text.items ≡ l.fn.text.items ++ flat_map (colour_text l.v l.node) (range_with_len 0 l.forest)
