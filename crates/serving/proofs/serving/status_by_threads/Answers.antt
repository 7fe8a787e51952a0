use Rattle.std.proofs.Common.{refl, subst, sym}
use Rattle.whole_streams.specs.Streams.{EndsAfter}
use Rattle.serving.specs.Streams.{reading, writing}
use Rattle.serving.proofs.Serves.{given, unread}
use Rattle.serving.proofs.serving.status_by_threads.Goals as goal

-- the input is read and answered, and the answer given
pub returns-in-Ok : goal.returns-in-Ok
returns-in-Ok g c =
    given g.C.Commands.commands
    (reading g.R.Read.remaining g.R.Source.faults g.R.Source.reads_left c.args.input.now c.read_whole.new.input)
    (writing g.W.Write.contents g.W.Sink.faults c.args.output.now c.give.new.output)
    (writing g.E.Write.contents g.E.Sink.faults c.args.errors.now c.give.new.errors)
    c.give.result c.executable-executable.result c.executable-executable.ensures
    c.args.request c.read_whole.ensures.reads c.as_slice.result.now
    (subst (EndsAfter (g.R.Read.remaining c.args.input.now) (g.R.Read.remaining c.read_whole.new.input)) (sym c.as_slice.ensures.value)
    c.in-Ok.ensures.ok) c.in-Ok.ensures.quiet
    c.answer_by_threads-answer.result c.answer_by_threads-answer.ensures.ok c.answer_by_threads-answer.ensures.fault c.give.ensures

-- it can't be read
pub returns-in-Err : goal.returns-in-Err
returns-in-Err g c =
    unread g.C.Commands.commands
    (reading g.R.Read.remaining g.R.Source.faults g.R.Source.reads_left c.args.input.now c.read_whole.new.input)
    (writing g.W.Write.contents g.W.Sink.faults c.args.output.now c.args.output.now)
    (writing g.E.Write.contents g.E.Sink.faults c.args.errors.now c.refuse_unread.new.errors)
    c.refuse_unread.result c.executable-executable.result c.executable-executable.ensures
    c.args.request c.read_whole.ensures.reads c.in-Err.fault c.in-Err.ensures.fault
    (refl, c.refuse_unread.ensures.reported, c.refuse_unread.ensures.status)
