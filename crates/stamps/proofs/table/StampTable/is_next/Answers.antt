use Rattle.std.proofs.Common.{rules, ◌≡◌, ◌≢◌, ◌∙◌, suc, ap, subst}
use Rattle.std.specs.Prelude.{MatchBool, max}
use Rattle.stamps.proofs.Tables.{take_next}
use Rattle.stamps.proofs.table.StampTable.is_next.Goals as goal

pub returns-in-Take : goal.returns-in-Take
returns-in-Take g c =
    let row = c.args.row.now in
    let greater : c.max.result ≡ max c.stamp_of-counter.result c.wire_stamp.result = search rules in
    record {
      next = λ rows is. subst (λ n. MatchBool c.follows-in-Take.result (row.stamp ≡ n) (row.stamp ≢ n))
          (ap (λ n. suc n) greater ∙ take_next rows c.args.self.now row c.in-Take.w c.in-Take.field-1 c.stamp_of-counter.result c.wire_stamp.result is
          c.in-Take.is c.stamp_of-counter.ensures.counter c.wire_stamp.ensures) c.follows-in-Take.ensures;
    }
