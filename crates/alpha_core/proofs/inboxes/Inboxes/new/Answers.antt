use Rattle.std.proofs.Common.{false, ap, ◌∙◌}
use Rattle.std.proofs.lemmas.Result.{IfOk-from_err}
use Rattle.node_api.specs.Boxes.{nothing}
use Rattle.alpha_core.proofs.inboxes.Inboxes.new.Goals as goal

pub returns-in_err-new : goal.returns-in_err-new
returns-in_err-new g c = record { new = IfOk-from_err c.from_residual.result _ c.from_residual.ensures.0 }

pub returns-in_err-new-2 : goal.returns-in_err-new-2
returns-in_err-new-2 g c = record { new = IfOk-from_err c.from_residual-in_err-new-2.result _ c.from_residual-in_err-new-2.ensures.0 }

pub returns : goal.returns
returns g c = record {
  new = ap (λ m. record { odd = false; present = m.slots; early = c.in_ok-new-2.field-0.slots }) c.in_ok-new.ensures.empty
      ∙ ap (λ m. record { odd = false; present = nothing c.args.degree; early = m.slots }) c.in_ok-new-2.ensures.empty;
}
