use Rattle.std.proofs.Common.{◌≡◌, ◌+◌, ◌++◌, [], ℕ, List, arith, ◌∙◌, ap, ap₂}
use Rattle.std.specs.List.{flat_map, range_with_len}
use Rattle.number_rows.proofs.Ranges.{texts-more}
use Rattle.dimacs_col.proofs.Refused.{err_says}
use Rattle.interference.specs.Net.{count_of}
use Rattle.event_rule.specs.State.{node_of}
use Rattle.play_runs.proofs.Rows.{at_end}
use Rattle.play_runs.specs.Ends.{end_line, node_end}
use Rattle.play_runs.proofs.ends.text_of_ends.Goals as goal

pub loop-i-preserved : goal.loop-i-preserved
loop-i-preserved g c =
    let state = c.args.state.now in
    let program = g.P.NodeProgram.program in
    let texts = g.P.ProgramText.texts in
    let so_far = c.loop-i.text.items in
    let v = c.loop-i.i + 1 in
    let line : ℕ → List ℕ = λ k. node_end texts state.net k (node_of program state.net state.state k) in
    let same : 1 + c.loop-i.i ≡ v = omega arith in
    texts-more line 1 c.loop-i.i v [] so_far c.push_end.new.text.items same c.loop-i.invariant
    (c.in_ok-push_end.ensures
    ∙ ap (λ net. so_far ++ end_line texts net v c.pulse_number.result c.program.result.now) c.network-net.ensures.network
    ∙ ap₂ (λ p state. so_far ++ end_line texts c.args.state.now.net v p state)
    (c.pulse_number.ensures.pulse ∙ ap (λ node. node.view.pulse) c.node-node.ensures.node)
    (c.program.ensures.state ∙ ap (λ node. node.state) c.node-node.ensures.node))

pub returns : goal.returns
returns g c =
    let state = c.args.state.now in
    let program = g.P.NodeProgram.program in
    record {
      text = c.loop-i.invariant
          ∙ ap (λ n. flat_map (λ v. node_end g.P.ProgramText.texts state.net v (node_of program state.net state.state v)) (range_with_len 1 n))
          (at_end c.loop-i.i c.nodes-i-end.result (count_of state.net) c.loop-i.auto.i-end c.loop-i-test.false
          (c.nodes-i-end.ensures.count ∙ ap count_of c.network-net.ensures.network));
    }

pub returns-in_err-push_end : goal.returns-in_err-push_end
returns-in_err-push_end g c = record { text = err_says _ _ c.from_residual.result c.from_residual.ensures.1 }
