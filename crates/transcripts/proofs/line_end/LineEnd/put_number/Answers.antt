use Rattle.std.proofs.Common.{ap, arith, length, length-append, subst, sym, ◌∙◌, ◌≤◌}
use Rattle.std.proofs.lemmas.List.{length-drop}
use Rattle.std.specs.Fmt.{decimal}
use Rattle.transcripts.proofs.Digits.{few-digits}
use Rattle.transcripts.proofs.line_end.LineEnd.put_number.Goals as goal

pub write_digits-self-inside-requires : goal.write_digits-self-inside-requires
write_digits-self-inside-requires c =
    let few = subst (λ n. length (decimal n) ≤ 10) (sym c.from.ensures) (few-digits c.args.number c.ranges.number.fits) in
    let seen = sym (length-drop c.self.inside.start c.self.inside.bytes) ∙ ap length c.self.view_is in
    (omega (arith, few, seen, c.self.told, c.self.invariant, c.requires.room), omega (arith, c.self.told, c.self.invariant))

pub returns-clause-length : goal.returns-clause-length
returns-clause-length c =
    let few = subst (λ n. length (decimal n) ≤ 10) (sym c.from.ensures) (few-digits c.args.number c.ranges.number.fits) in
    let written = ap length c.write_digits-self-inside.ensures.written ∙ length-append (decimal c.from.result) _ in
    let seen = ap length c.self.view_is in
    omega (arith, few, written, seen)
