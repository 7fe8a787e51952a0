use Rattle.std.proofs.Common.{◌+◌, ◌∙◌, [], None, drop, get_or, refl, subst, sym, take}
use Rattle.std.proofs.lemmas.List.{get_or_default, take_more}
use Rattle.std.proofs.lemmas.Result.{err_from_is_err_and}
use Rattle.channel_plan.specs.Checked.{IsFaultOfRow, IsTable, row_fault, rows_fault}
use Rattle.channel_plan.specs.Reading.{Row}
use Rattle.channel_plan.proofs.Tables.{fault-here, rows-end, rows-more}
use Rattle.channel_plan.proofs.checking.put_rows.Goals as goal

pub returns-in_err-put_row-clause-fault : goal.returns-in_err-put_row-clause-fault
returns-in_err-put_row-clause-fault c =
    let net = c.args.net.now in
    let rows = c.args.rows.now in
    let i = c.loop-row.row-index in
    let row : Row = get_or rows i (0, 0) in
    let p = err_from_is_err_and c.from_residual.result c.from_residual.ensures.1 in
    let wrong = row_fault net (take i rows) row in
    let left = rows_fault net (take (i + 1) rows) (drop (i + 1) rows) in
    let told : IsFaultOfRow wrong c.in_err-put_row.field-0.0 = c.in_err-put_row.ensures.fault (take i rows) c.loop-row.invariant.table in
    let all = c.loop-row.invariant.left ∙ rows-more net rows i row wrong c.loop-row-test.true (get_or_default rows i (0, 0) row c.loop-row-test.true) refl in
    rw (p.1, p.2) (fault-here wrong left (rows_fault net [] rows) c.in_err-put_row.field-0.0 told all)

pub loop-row-preserved : goal.loop-row-preserved
loop-row-preserved c =
    let net = c.args.net.now in
    let rows = c.args.rows.now in
    let i = c.loop-row.row-index in
    let row : Row = get_or rows i (0, 0) in
    let good = c.in_ok-put_row.ensures.ok (take i rows) c.loop-row.invariant.table in record {
      table = subst (λ before. IsTable net before c.put_row.new.table) (sym (take_more rows i (0, 0) c.loop-row-test.true)) good.1;
      left = c.loop-row.invariant.left ∙ rows-more net rows i row None c.loop-row-test.true (get_or_default rows i (0, 0) row c.loop-row-test.true) good.0;
    }

pub returns-clause-good : goal.returns-clause-good
returns-clause-good c = c.loop-row.invariant.left ∙ rows-end c.args.net.now (take c.loop-row.row-index c.args.rows.now) c.args.rows.now c.loop-row.row-index
    c.loop-row-test.false
