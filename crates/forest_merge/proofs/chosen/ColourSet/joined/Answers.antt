use Rattle.std.proofs.Common.{◌/◌, sym, ap, ◌∙◌, arith}
use Rattle.std.specs.Prelude.{◌||◌}
use Rattle.std.specs.FinSet.{contains}
use Rattle.colour_base.specs.Words.{has_bit}
use Rattle.forest_merge.proofs.Words.{contains-colours_of, contains-words}
use Rattle.forest_merge.proofs.Joined.{bit_of_both, words_of_both}
use Rattle.forest_merge.proofs.chosen.ColourSet.joined.Goals as goal

pub returns : goal.returns
returns g c = λ k.
    contains-colours_of c.loop-i.words k
    ∙ bit_of_both c.self.inside.words c.other.inside.words c.loop-i.words k
    (words_of_both g.row.N c.self.inside.words c.other.inside.words c.loop-i.words (omega arith) (omega arith) c.loop-i.invariant.long
    (λ j lt. c.loop-i.invariant.done j (omega arith)) (k / 64))
    ∙ ap (λ b. b || has_bit c.other.inside.words k) (sym (contains-words c.self.inside.words c.args.self.now c.self.view_is k))
    ∙ ap (λ b. contains c.args.self.now k || b) (sym (contains-words c.other.inside.words c.args.other.now c.other.view_is k))
