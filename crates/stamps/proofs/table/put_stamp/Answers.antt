use Rattle.std.proofs.Common.{rules, ◌≡◌, ◌∙◌, None, Some, ap, slice_index_or, sym}
use Rattle.std.specs.HashMap.{get}
use Rattle.stamps.specs.Table.{items_of, same_link}
use Rattle.stamps.proofs.table.put_stamp.Goals as goal

pub returns-in-Some : goal.returns-in-Some
returns-in-Some c =
    let found : get same_link c.args.puts.now c.args.link ≡ Some c.in-Some.stamps.now = search rules in
    let value : c.unwrap_or.result ≡ slice_index_or c.in-Some.stamps.now.items c.args.k 0 = search rules in
    value ∙ ap (λ o. slice_index_or (items_of o) c.args.k 0) (sym found)

pub returns-in-None : goal.returns-in-None
returns-in-None c =
    let found : get same_link c.args.puts.now c.args.link ≡ None = search rules in
    ap (λ o. slice_index_or (items_of o) c.args.k 0) (sym found)
