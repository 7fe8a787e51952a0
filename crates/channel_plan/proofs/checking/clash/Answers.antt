use Rattle.std.proofs.Common.{◌+◌, ◌<◌, ◌≤◌, ◌∙◌, ap, arith, drop, sym}
use Rattle.std.specs.Option.{option_or}
use Rattle.interference.specs.Net.{count_of, vertices}
use Rattle.channel_plan.specs.Checked.{clash_among, channels_in}
use Rattle.channel_plan.proofs.Finding.{clash-end, clash-more}
use Rattle.channel_plan.proofs.checking.clash.Goals as goal

pub returns-in-Some : goal.returns-in-Some
returns-in-Some c =
    let below : c.loop-i.i < count_of c.args.net.now = omega arith in
    let left = clash_among c.args.net.now (channels_in c.args.table.now) (drop (c.loop-i.i + 1) (vertices c.args.net.now)) in
    sym (c.loop-i.invariant ∙ clash-more c.args.net.now (channels_in c.args.table.now) c.loop-i.i below ∙
    ap (λ found. option_or found left) (sym c.clash_of.ensures ∙ c.in-Some.is))

pub loop-i-preserved : goal.loop-i-preserved
loop-i-preserved c =
    let below : c.loop-i.i < count_of c.args.net.now = omega arith in
    let left = clash_among c.args.net.now (channels_in c.args.table.now) (drop (c.loop-i.i + 1) (vertices c.args.net.now)) in
    c.loop-i.invariant ∙ clash-more c.args.net.now (channels_in c.args.table.now) c.loop-i.i below
    ∙ ap (λ found. option_or found left) (sym c.clash_of.ensures ∙ c.in_default.is)

pub returns : goal.returns
returns c =
    let end : count_of c.args.net.now ≤ c.loop-i.i = omega arith in
    sym (c.loop-i.invariant ∙ clash-end c.args.net.now (channels_in c.args.table.now) c.loop-i.i end)
