use Rattle.std.proofs.Common.{◌∙◌, ap, sym}
use Rattle.command_line.specs.Asked.{choice_of, play_named}
use Rattle.command_line.proofs.Entered.{entered-row}
use Rattle.command_line.proofs.play_request.choice.Goals as goal

pub returns : goal.returns
returns c =
    c.play_named.ensures
    ∙ sym (ap (choice_of play_named) (entered-row _ _ _ c.in_ok-name.name.now _ c.in_ok-name.ensures.name c.in_ok-name.ensures.rows))
