use Rattle.std.proofs.Common.{◌≡◌, ◌<◌, ◌/◌, length, true, false, set, get_or, bit_or, ◌^◌, ◌%◌, ◌*◌, ap, sym, ◌∙◌, arith}
use Rattle.std.proofs.lemmas.List.{length-set}
use Rattle.node_api.specs.Marks.{count_marks, is_marked, marks_in}
use Rattle.node_api.proofs.Counting.{count-added, count-within}
use Rattle.node_api.proofs.Words.{length-marks_in, marks_in-read_set}
use Rattle.node_api.proofs.marks.Marks.add.Goals as goal

pub get-word-requires : goal.get-word-requires
get-word-requires c =
    let a = c.self.inside in
    record { index = omega (arith, c.requires.place, ap length c.self.view_is, length-marks_in a.places a.words, c.self.invariant.room) }

pub set-requires : goal.set-requires
set-requires c =
    let a = c.self.inside in
    record { index = omega (arith, c.requires.place, ap length c.self.view_is, length-marks_in a.places a.words, c.self.invariant.room) }

pub overflow_add-self : goal.overflow_add-self
overflow_add-self c =
    let a = c.self.inside in
    let marks = marks_in a.places a.words in
    let below : c.args.place < length marks = omega (arith, c.requires.place, ap length c.self.view_is) in
    let free : is_marked marks c.args.place ≡ false = ap (λ l. is_marked l c.args.place) c.self.view_is ∙ c.requires.free in
    omega (
      arith,
      c.self.invariant.counted,
      count-added marks c.args.place below free,
      count-within (set marks c.args.place true),
      length-set marks c.args.place true,
      length-marks_in a.places a.words,
    )

pub invariant_of-self : goal.invariant_of-self
invariant_of-self c =
    let a = c.self.inside in
    let marks = marks_in a.places a.words in
    let below : c.args.place < length marks = omega (arith, c.requires.place, ap length c.self.view_is) in
    let inside : c.args.place / 64 < length a.words = omega (arith, below, length-marks_in a.places a.words, c.self.invariant.room) in
    let read : c.get-word.result ≡ get_or a.words (c.args.place / 64) 0 = c.get-word.ensures.word in
    let free : is_marked marks c.args.place ≡ false = ap (λ l. is_marked l c.args.place) c.self.view_is ∙ c.requires.free in
    record {
      room = omega (
        arith,
        c.self.invariant.room,
        ap length c.set.ensures.word,
        length-set a.words (c.args.place / 64) (bit_or c.get-word.result (1 * 2 ^ (c.args.place % 64) % 2 ^ 64)),
      );
      counted = sym (ap (λ l. count_marks (marks_in a.places l)) c.set.ensures.word ∙ ap count_marks
          (marks_in-read_set a.places a.words c.args.place c.get-word.result read
          (omega (arith, below, length-marks_in a.places a.words)) inside)
          ∙ (count-added marks c.args.place below free ∙ omega (arith, c.self.invariant.counted)));
      small = c.self.invariant.small;
    }

pub returns : goal.returns
returns c =
    let a = c.self.inside in
    let below : c.args.place < a.places = omega (arith, c.requires.place, ap length c.self.view_is, length-marks_in a.places a.words) in
    let inside : c.args.place / 64 < length a.words = omega (arith, below, c.self.invariant.room) in
    let read : c.get-word.result ≡ get_or a.words (c.args.place / 64) 0 = c.get-word.ensures.word in
    record {
      marked = ap (λ l. marks_in a.places l) c.set.ensures.word
          ∙ marks_in-read_set a.places a.words c.args.place c.get-word.result read below inside
          ∙ ap (λ l. set l c.args.place true) c.self.view_is;
    }
