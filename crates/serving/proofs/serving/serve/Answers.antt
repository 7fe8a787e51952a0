use Rattle.std.proofs.Common.{map}
use Rattle.serving.specs.Streams.{reading, writing}
use Rattle.serving.proofs.Serves.{served, unmoved}
use Rattle.serving.proofs.serving.serve.Goals as goal

-- the request was handed back before anything was read or written
pub returns-in-Err : goal.returns-in-Err
returns-in-Err g c =
    served g.C.Commands.commands
    (reading g.R.Read.remaining g.R.Source.faults g.R.Source.reads_left c.args.input.now c.status_by_threads.new.input)
    (writing g.W.Write.contents g.W.Sink.faults c.args.output.now c.status_by_threads.new.output)
    (writing g.E.Write.contents g.E.Sink.faults c.args.errors.now c.status_by_threads.new.errors)
    c.status_by_threads.result (map (λ word. word.now) c.args.words.now) c.in-Err.request c.in-Err.ensures.asked
    (unmoved g.C.Commands.commands
    (λ old. reading g.R.Read.remaining g.R.Source.faults g.R.Source.reads_left old c.status_by_threads.new.input)
    (λ old. writing g.W.Write.contents g.W.Sink.faults old c.status_by_threads.new.output)
    (λ old. writing g.E.Write.contents g.E.Sink.faults old c.status_by_threads.new.errors)
    c.in-Err.request c.status_by_threads.result c.args.input.now c.serve_alone.new.input c.args.output.now c.serve_alone.new.output
    c.args.errors.now c.serve_alone.new.errors c.in-Err.ensures.untouched c.status_by_threads.ensures)
