use Rattle.std.proofs.Common.{◌≡◌, ◌+◌, arith}
use Rattle.colour_program.specs.ColoursText.{colour_text}
use Rattle.number_rows.proofs.Ranges.{texts-more}
use Rattle.colour_program.proofs.colours_text.push_colours.Goals as goal

pub loop-forest-preserved : goal.loop-forest-preserved
loop-forest-preserved c =
    let same : 0 + c.loop-forest.forest ≡ c.loop-forest.forest = omega arith in
    texts-more (colour_text c.args.v c.args.node.now) 0 c.loop-forest.forest c.loop-forest.forest c.args.text.now.items c.loop-forest.text.items
    c.push_colour.new.text.items same c.loop-forest.invariant c.in_ok-push_colour.ensures
