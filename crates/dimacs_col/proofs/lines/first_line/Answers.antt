use Rattle.std.proofs.Common.{◌∷◌, ◌+◌, ◌∙◌, ap, drop, sym, take}
use Rattle.std.proofs.lemmas.List.{take_rest}
use Rattle.dimacs_col.specs.Lines.{line_of, lines_of}
use Rattle.dimacs_col.proofs.LineEnds.{lines-here, lines-last}
use Rattle.dimacs_col.proofs.lines.first_line.Goals as goal

pub returns-in-Some : goal.returns-in-Some
returns-in-Some c =
    let text = c.args.text.now in
    let end = c.in-Some.end in
    lines-here text (take end text) (drop (end + 1) text) c.in-Some.ensures.found
    ∙ ap (λ rest. line_of (take end text) ∷ lines_of rest) (sym (take_rest text (end + 1)))

pub returns-in-None : goal.returns-in-None
returns-in-None c = lines-last c.args.text.now c.in-None.ensures.none
