use Rattle.std.proofs.Common.{◌≡◌, ◌+◌, ◌++◌, [], ℕ, List, arith, ◌∙◌, ap}
use Rattle.event_rule.specs.State.{node_of}
use Rattle.node_api.specs.Program.{last_pulse_on}
use Rattle.program_texts.specs.PayloadTexts.{payload_texts}
use Rattle.event_texts.specs.StateText.{links_text, node_text}
use Rattle.number_rows.proofs.Ranges.{behind, texts-more}
use Rattle.std.specs.List.{flat_map, range_with_len}
use Rattle.dimacs_col.proofs.Refused.{err_says}
use Rattle.interference.specs.Net.{count_of}
use Rattle.event_texts.proofs.Written.{at_end}
use Rattle.event_texts.proofs.state_text.text_of_state.Goals as goal

pub loop-i-preserved : goal.loop-i-preserved
loop-i-preserved g c =
    let state = c.args.state.now in
    let program = g.P.NodeProgram.program in
    let payloads = payload_texts g.P.Payload.PayloadText in
    let v = c.loop-i.i + 1 in
    let node_line : ℕ → List ℕ = λ k. node_text g.P.ProgramText.texts state.net (last_pulse_on program state.net) k (node_of program state.net state.state k) in
    let link_lines : ℕ → List ℕ = links_text payloads state.net state.state in
    let same : 1 + c.loop-i.i ≡ v = omega arith in
    texts-more (λ k. node_line k ++ link_lines k)
    1 c.loop-i.i v [] c.loop-i.text.items c.push_links.new.text.items same c.loop-i.invariant
    (behind c.loop-i.text.items (node_line v) (link_lines v) c.push_node.new.text.items c.push_links.new.text.items
    c.in_ok-push_node.ensures c.in_ok-push_links.ensures)

pub returns : goal.returns
returns g c =
    let state = c.args.state.now in
    let program = g.P.NodeProgram.program in
    let payloads = payload_texts g.P.Payload.PayloadText in
    record {
      text = c.loop-i.invariant
          ∙ ap (λ n. flat_map (λ v. node_text g.P.ProgramText.texts state.net (last_pulse_on program state.net) v (node_of program state.net state.state v)
          ++ links_text payloads state.net state.state v) (range_with_len 1 n))
          (at_end c.loop-i.i c.nodes-i-end.result (count_of state.net) c.loop-i.auto.i-end c.loop-i-test.false
          (c.nodes-i-end.ensures.count ∙ ap count_of c.network.ensures.network));
    }

pub returns-in_err-push_node : goal.returns-in_err-push_node
returns-in_err-push_node g c = record { text = err_says _ _ c.from_residual.result c.from_residual.ensures.1 }

pub returns-in_err-push_links : goal.returns-in_err-push_links
returns-in_err-push_links g c = record { text = err_says _ _ c.from_residual-in_err-push_links.result c.from_residual-in_err-push_links.ensures.1 }
