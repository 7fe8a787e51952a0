use Rattle.std.proofs.Common.{◌∙◌, ◌++◌, ap, sym, append_assoc, map}
use Rattle.std.specs.List.{join_with_byte}
use Rattle.std.specs.Fmt.{decimal}
use Rattle.number_rows.specs.Row.{spaced}
use Rattle.number_rows.proofs.Spaced.{joined_last}
use Rattle.number_rows.proofs.row.push_joined.Goals as goal

pub returns-clause-joined : goal.returns-clause-joined
returns-clause-joined c =
    let old = c.args.text.now.items in
    let others = c.in-Some.others.now in
    let last = c.in-Some.last.now in
    c.in_ok-push_decimal.ensures.items
    ∙ ap (λ l. l ++ decimal last) c.in_ok-push_spaced.ensures.spaced
    ∙ append_assoc old (spaced others) (decimal last)
    ∙ ap (λ l. old ++ l) (sym (joined_last others last)
    ∙ ap (λ numbers. join_with_byte 32 (map decimal numbers)) (sym c.in-Some.ensures.cases.0))
