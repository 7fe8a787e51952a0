use Rattle.std.proofs.Common.{◌∙◌, ap, sym}
use Rattle.std.proofs.lemmas.List.{take_rest}
use Rattle.dimacs_col.specs.Lines.{lines_of}
use Rattle.transcripts.specs.Behind.{first_name}
use Rattle.transcripts.proofs.behind.program_in.Goals as goal

pub returns-in-Some : goal.returns-in-Some
returns-in-Some c =
    c.first_name.ensures
    ∙ ap first_name (ap lines_of (take_rest c.args.input.now c.in-Some.start.bytes) ∙ c.in-Some.ensures.from)

pub returns-in-None : goal.returns-in-None
returns-in-None c = sym (ap first_name c.in-None.ensures.no_text)
