use Rattle.std.proofs.Common.{ap, arith, length, sym, ◌∙◌}
use Rattle.std.proofs.lemmas.List.{length-drop}
use Rattle.transcripts.proofs.Digits.{stamp-digits}
use Rattle.transcripts.proofs.line_end.LineEnd.put_stamp.Goals as goal

pub write_digits-self-inside-requires : goal.write_digits-self-inside-requires
write_digits-self-inside-requires c =
    let few = stamp-digits c.args.stamp c.ranges.stamp.fits in
    let seen = sym (length-drop c.self.inside.start c.self.inside.bytes) ∙ ap length c.self.view_is in
    (omega (arith, few, seen, c.self.told, c.self.invariant, c.requires.room), omega (arith, c.self.told, c.self.invariant))
