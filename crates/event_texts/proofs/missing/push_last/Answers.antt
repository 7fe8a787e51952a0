use Rattle.std.proofs.Common.{◌++◌, ◌∙◌, ap, append_assoc, codes}
use Rattle.number_rows.specs.Row.{numbered}
use Rattle.event_texts.proofs.missing.push_last.Goals as goal

pub returns : goal.returns
returns c =
    let text = c.args.text.now.items in
    c.in_ok-extend_from_slice.ensures.items
    ∙ ap (λ l. l ++ codes " is the last") (c.in_ok-push_numbered.ensures ∙ ap (λ n. text ++ numbered (codes ": pulse ") n) c.from.ensures)
    ∙ append_assoc text (numbered (codes ": pulse ") c.args.pulse) (codes " is the last")
