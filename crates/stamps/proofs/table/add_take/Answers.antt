use Rattle.std.proofs.Common.{rules, ◌≡◌, suc}
use Rattle.stamps.specs.Table.{count_in}
use Rattle.stamps.proofs.Tables.{counted_by}
use Rattle.stamps.proofs.table.add_take.Goals as goal

pub returns : goal.returns
returns c =
    let more : c.in_ok-count.count ≡ suc (count_in c.args.takes.now c.args.link) = search rules in
    record { counted = counted_by c.args.takes.now c.insert.new.self c.args.link c.in_ok-count.count c.in_ok-insert.ensures.updates more }
