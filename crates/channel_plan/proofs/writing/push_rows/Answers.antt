use Rattle.channel_plan.proofs.Rows.{rows-step}
use Rattle.channel_plan.proofs.writing.push_rows.Goals as goal

pub loop-index-preserved : goal.loop-index-preserved
loop-index-preserved c =
    rows-step c.args.text.now.items c.loop-index.text.items c.push_row.new.text.items c.args.colours.now
    c.loop-index.index c.from.result c.loop-index-test.true c.from.ensures c.loop-index.invariant
    c.in_ok-push_row.ensures.row
