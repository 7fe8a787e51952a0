use Rattle.std.proofs.Common.{rules, ◌≡◌, [], ◌∷◌, ◌++◌, arith}
use Rattle.std.specs.HashMap.{get}
use Rattle.std.specs.HashMap.Entry.{map_with_value}
use Rattle.std.specs.Option.{unwrap_or}
use Rattle.std.proofs.lemmas.Grind.{common_steps}
use Rattle.stamps.specs.Table.{same_link}
use Rattle.stamps.proofs.Tables.{pushed_by}
use Rattle.stamps.proofs.table.add_put.Goals as goal

pub returns : goal.returns
returns c =
    let before : c.or_insert.result.now ≡ unwrap_or (get same_link c.args.puts.now c.args.link) c.new.result = search rules in
    let push : c.push.new.self.items ≡ c.or_insert.result.now.items ++ (c.args.stamp ∷ []) = search rules in
    let is = pushed_by c.args.puts.now (map_with_value c.in_ok-puts.field-0 c.push.new.self) c.args.link c.args.stamp c.new.result
    c.or_insert.result.now c.push.new.self (c.in_ok-puts.ensures.update.0 c.push.new.self) before c.new.ensures.items push in
    let here = is.here in
    record {
      pushed = record {
        here = grind (arith, common_steps, here);
        others = λ q ne. let other = is.others q ne in grind (arith, common_steps, other);
      };
    }
