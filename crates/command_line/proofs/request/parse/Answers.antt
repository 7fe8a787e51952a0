use Rattle.std.proofs.Common.{◌≡◌, ◌∙◌, None, Some, map, sym}
use Rattle.clap.specs.Words.{subcommand_rows_of}
use Rattle.command_line.specs.Asked.{request_named}
use Rattle.command_line.specs.declared.executable.Executable.TheVariants.{Forestplan}
use Rattle.command_line.proofs.Declining.{at_fault, taken}
use Rattle.command_line.proofs.KnownRequests.{has_request, in_range}
use Rattle.command_line.proofs.request.parse.Goals as goal

pub returns-in-Some-clause-ok : goal.returns-in-Some-clause-ok
returns-in-Some-clause-ok c =
    taken Forestplan request_named (map (λ word. word.now) c.args.words.now) (subcommand_rows_of c.in-Ok.matches) c.in-Ok.ensures.ok ∙ sym c.in-Some.ensures

pub returns-in-Some-clause-in_range : goal.returns-in-Some-clause-in_range
returns-in-Some-clause-in_range c =
    in_range (map (λ word. word.now) c.args.words.now) (subcommand_rows_of c.in-Ok.matches) c.in-Some.request c.in-Ok.ensures.ok (sym c.in-Some.ensures)

-- each command of the line has a request
pub unreachable-requires : goal.unreachable-requires
unreachable-requires c =
    let has = has_request (map (λ word. word.now) c.args.words.now) (subcommand_rows_of c.in-Ok.matches) c.in-Ok.ensures.ok in
    let both : None ≡ Some has.0 = c.in-None.ensures ∙ has.1 in
    cc

pub returns-in-Err-clause-err : goal.returns-in-Err-clause-err
returns-in-Err-clause-err c =
    at_fault Forestplan request_named (map (λ word. word.now) c.args.words.now) c.in-Err.declined c.in-Err.ensures.err
