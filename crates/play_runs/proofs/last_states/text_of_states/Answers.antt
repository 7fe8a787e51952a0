use Rattle.std.proofs.Common.{◌<◌, arith}
use Rattle.interference.specs.Net.{count_of}
use Rattle.play_runs.proofs.States.{line-more, many}
use Rattle.play_runs.proofs.last_states.text_of_states.Goals as goal

pub offset_bounds-nodes-i : goal.offset_bounds-nodes-i
offset_bounds-nodes-i g c =
    omega (arith, c.loop-i-test.true, c.nodes-i-end.ensures.count, many g.P.NodeProgram.program c.args.net.now c.args.nodes.now c.requires.states)

pub bounds-nodes-i : goal.bounds-nodes-i
bounds-nodes-i g c =
    omega (arith, c.loop-i-test.true, c.nodes-i-end.ensures.count, many g.P.NodeProgram.program c.args.net.now c.args.nodes.now c.requires.states)

pub loop-i-preserved : goal.loop-i-preserved
loop-i-preserved g c =
    let net = c.args.net.now in
    let lt : c.loop-i.i < count_of net = omega (arith, c.loop-i-test.true, c.nodes-i-end.ensures.count) in
    line-more g.P.NodeProgram.program net c.args.nodes.now c.requires.states g.P.ProgramText.texts c.loop-i.i c.last_pulse-last.result
    c.index-nodes-i.result c.loop-i.text.items c.push_end.new.text.items lt c.index-nodes-i.is c.last_pulse-last.ensures.last
    c.loop-i.invariant c.in_ok-push_end.ensures
