use Rattle.std.proofs.Common.{map, refl, subst}
use Rattle.command_line.specs.Asked.{MayDecline}
use Rattle.serving.specs.Streams.{reading, writing}
use Rattle.serving.proofs.Serves.{helped, refused}
use Rattle.serving.proofs.serving.serve_alone.Goals as goal

pub returns-in-Err-Help-clause-served : goal.returns-in-Err-Help-clause-served
returns-in-Err-Help-clause-served g c =
    let words = map (λ word. word.now) c.args.words.now in
    let err = subst (MayDecline g.C.Commands.commands.executable (g.C.Commands.commands.request_of words) words) c.in-Err-Help.field-0-is
    c.in-Err-Help.ensures.err in
    helped g.C.Commands.commands
    (reading g.R.Read.remaining g.R.Source.faults g.R.Source.reads_left c.args.input.now c.args.input.now)
    (writing g.W.Write.contents g.W.Sink.faults c.args.output.now c.put.new.output)
    (writing g.E.Write.contents g.E.Sink.faults c.args.errors.now c.put.new.errors)
    c.put.result c.executable-executable.result c.executable-executable.ensures words c.as_bytes.result.now err.0 err.1 refl c.put.ensures

pub returns-in-Err-Refused-clause-served : goal.returns-in-Err-Refused-clause-served
returns-in-Err-Refused-clause-served g c =
    let words = map (λ word. word.now) c.args.words.now in
    let err = subst (MayDecline g.C.Commands.commands.executable (g.C.Commands.commands.request_of words) words) c.in-Err-Refused.field-0-is
    c.in-Err-Refused.ensures.err in
    refused g.C.Commands.commands
    (reading g.R.Read.remaining g.R.Source.faults g.R.Source.reads_left c.args.input.now c.args.input.now)
    (writing g.W.Write.contents g.W.Sink.faults c.args.output.now c.args.output.now)
    (writing g.E.Write.contents g.E.Sink.faults c.args.errors.now c.refuse.new.errors)
    c.refuse.result c.executable-executable.result c.executable-executable.ensures words
    c.as_bytes-in-Err-Refused.result.now err.0 err.1 refl (refl, c.refuse.ensures.reported, c.refuse.ensures.status)
