use Rattle.std.proofs.Common.{refl}
use Rattle.serving.specs.Serve.{no_text_of}
use Rattle.serving.specs.Streams.{reading, writing}
use Rattle.serving.proofs.Serves.{no-memory}
use Rattle.serving.proofs.process.status_of.Goals as goal

pub returns-in-Err-clause-refused : goal.returns-in-Err-clause-refused
returns-in-Err-clause-refused g c = rw c.in-Err.is (
    no-memory g.C.Commands.commands
    (reading g.R.Read.remaining g.R.Source.faults g.R.Source.reads_left c.args.input.now c.args.input.now)
    (writing g.W.Write.contents g.W.Sink.faults c.args.output.now c.args.output.now)
    (writing g.E.Write.contents g.E.Sink.faults c.args.errors.now c.refuse_memory-in-Err.new.errors)
    c.refuse_memory-in-Err.result c.executable-executable.result c.executable-executable.ensures
    (no_text_of g.C.Commands.commands.executable) refl (refl, c.refuse_memory-in-Err.ensures.reported, c.refuse_memory-in-Err.ensures.status)
    )
