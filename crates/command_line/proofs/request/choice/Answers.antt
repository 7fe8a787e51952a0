use Rattle.std.proofs.Common.{◌∙◌, ap, sym}
use Rattle.command_line.specs.Asked.{choice_of, request_named}
use Rattle.command_line.proofs.Entered.{entered-row}
use Rattle.command_line.proofs.request.choice.Goals as goal

pub returns : goal.returns
returns c =
    c.request_named.ensures
    ∙ sym (ap (choice_of request_named) (entered-row _ _ _ c.in_ok-name.name.now _ c.in_ok-name.ensures.name c.in_ok-name.ensures.rows))
