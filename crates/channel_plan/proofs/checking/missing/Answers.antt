use Rattle.std.proofs.Common.{◌≡◌, ◌+◌, ◌<◌, ◌≤◌, ◌∙◌, ap, arith, not, sym, true, false, is_none}
use Rattle.interference.specs.Net.{count_of}
use Rattle.channel_plan.specs.Checked.{channels_in}
use Rattle.channel_plan.proofs.Finding.{look-next, missing-end, missing-more}
use Rattle.channel_plan.proofs.checking.missing.Goals as goal

pub returns-then-is_none : goal.returns-then-is_none
returns-then-is_none c =
    let below : c.loop-i.i < count_of c.args.net.now = omega arith in
    let here : is_none (channels_in c.args.table.now (c.loop-i.i + 1)) ≡ true = look-next c.args.table.now c.loop-i.i ∙ ap not c.is_none.ensures ∙
    ap (λ b. not (not b)) c.if-is_none.true in
    sym (c.loop-i.invariant ∙ missing-more c.args.net.now (channels_in c.args.table.now) c.loop-i.i true below here)

pub loop-i-preserved : goal.loop-i-preserved
loop-i-preserved c =
    let below : c.loop-i.i < count_of c.args.net.now = omega arith in
    let here : is_none (channels_in c.args.table.now (c.loop-i.i + 1)) ≡ false = look-next c.args.table.now c.loop-i.i ∙ ap not c.is_none.ensures ∙
    ap (λ b. not (not b)) c.if-is_none.false in
    c.loop-i.invariant ∙ missing-more c.args.net.now (channels_in c.args.table.now) c.loop-i.i false below here

pub returns : goal.returns
returns c =
    let end : count_of c.args.net.now ≤ c.loop-i.i = omega arith in
    sym (c.loop-i.invariant ∙ missing-end c.args.net.now (channels_in c.args.table.now) c.loop-i.i end)
