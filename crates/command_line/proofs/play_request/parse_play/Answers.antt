use Rattle.std.proofs.Common.{◌∙◌, map, sym}
use Rattle.clap.specs.Words.{subcommand_rows_of}
use Rattle.command_line.specs.Asked.{play_named}
use Rattle.command_line.specs.declared.executable.Executable.TheVariants.{Forestplay}
use Rattle.command_line.proofs.Declining.{at_fault, taken}
use Rattle.command_line.proofs.KnownPlays.{in_range, unnamed}
use Rattle.command_line.proofs.play_request.parse_play.Goals as goal

pub returns-in-Some-clause-ok : goal.returns-in-Some-clause-ok
returns-in-Some-clause-ok c =
    taken Forestplay play_named (map (λ word. word.now) c.args.words.now) (subcommand_rows_of c.in-Ok.matches) c.in-Ok.ensures.ok ∙ sym c.in-Some.ensures

pub returns-in-Some-clause-in_range : goal.returns-in-Some-clause-in_range
returns-in-Some-clause-in_range c =
    in_range (map (λ word. word.now) c.args.words.now) (subcommand_rows_of c.in-Ok.matches) c.in-Some.request c.in-Ok.ensures.ok (sym c.in-Some.ensures)

pub returns-in-Ok-clause-err : goal.returns-in-Ok-clause-err
returns-in-Ok-clause-err c =
    unnamed (map (λ word. word.now) c.args.words.now) (subcommand_rows_of c.in-Ok.matches) c.no_program.result c.in-Ok.ensures.ok (sym c.in-None.ensures)
    c.no_program.ensures

pub returns-clause-err : goal.returns-clause-err
returns-clause-err c =
    at_fault Forestplay play_named (map (λ word. word.now) c.args.words.now) c.in-Err.declined c.in-Err.ensures.err
