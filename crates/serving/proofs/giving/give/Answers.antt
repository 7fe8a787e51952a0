use Rattle.std.proofs.Common.{inl, inr, refl, subst, ⊎_elim}
use Rattle.serving.specs.Serve.{Puts}
use Rattle.serving.specs.Streams.{writing}
use Rattle.serving.proofs.giving.give.Goals as goal

pub returns-in-Ok : goal.returns-in-Ok
returns-in-Ok g c = rw c.in-Ok.is (
    subst (λ text. Puts c.args.executable (writing g.W.Write.contents g.W.Sink.faults c.args.output.now c.put.new.output)
    (writing g.E.Write.contents g.E.Sink.faults c.args.errors.now c.put.new.errors) text c.put.result) c.as_slice.ensures.value c.put.ensures
    )

pub returns-in-Err : goal.returns-in-Err
returns-in-Err g c = rw c.in-Err.is (
    ⊎_elim (λ reported. inl (refl, reported.0, reported.1)) (λ memory. inr (refl, memory.0, memory.1)) c.refuse_fault.ensures
    )
