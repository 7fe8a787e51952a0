use Rattle.std.proofs.Common.{◌∙◌, ap, inl, subst}
use Rattle.serving.specs.CommandSet.{fault_line}
use Rattle.serving.specs.Serve.{IsReported}
use Rattle.serving.specs.Streams.{writing}
use Rattle.serving.proofs.giving.refuse_fault.Goals as goal

pub returns-in-Ok : goal.returns-in-Ok
returns-in-Ok g c = inl (
  subst (λ text. IsReported (writing g.E.Write.contents g.E.Sink.faults c.args.errors.now c.refuse.new.errors) text)
      (c.as_slice.ensures.value ∙ c.in-Ok.ensures.line
      ∙ ap (λ name. fault_line g.C.Commands.commands name c.args.fault) c.name.ensures) c.refuse.ensures.reported,
  c.refuse.ensures.status ∙ c.in-Ok.ensures.status,
)
