use Rattle.std.proofs.Common.{◌<◌, ◌%◌, ◌^◌, ◌*◌, length, false, not, bit_and, nat_eq, ap, sym, ◌∙◌, arith}
use Rattle.node_api.specs.Marks.{is_marked}
use Rattle.colour_base.proofs.Words.{has_bit-test}
use Rattle.node_api.proofs.Words.{length-marks_in, marks_in-at}
use Rattle.node_api.proofs.marks.Marks.has.Goals as goal

pub get-requires : goal.get-requires
get-requires c =
    let a = c.self.inside in
    record { index = omega (arith, c.requires.place, ap length c.self.view_is, length-marks_in a.places a.words, c.self.invariant.room) }

pub returns : goal.returns
returns c =
    let a = c.self.inside in
    let below : c.args.place < a.places = omega (arith, c.requires.place, ap length c.self.view_is, length-marks_in a.places a.words) in
    record {
      marked = ap (λ w. not (nat_eq (bit_and w (1 * 2 ^ (c.args.place % 64) % 2 ^ 64)) 0))
          c.get.ensures.word
          ∙ (has_bit-test a.words c.args.place
          ∙ (sym (marks_in-at a.places a.words c.args.place false below) ∙ ap (λ l. is_marked l c.args.place) c.self.view_is));
    }
