use Rattle.std.proofs.Common.{◌≡◌, ◌+◌, arith, ◌∙◌, ◌++◌, ap, append-nil, sym}
use Rattle.interference.specs.Net.{neighbour_of, degree_of}
use Rattle.event_rule.specs.State.{link_at}
use Rattle.program_texts.specs.PayloadTexts.{payload_texts}
use Rattle.event_texts.specs.StateText.{link_text}
use Rattle.number_rows.proofs.Ranges.{texts-more}
use Rattle.std.specs.List.{flat_map, range_with_len}
use Rattle.dimacs_col.proofs.Refused.{err_says}
use Rattle.event_texts.proofs.Written.{at_end}
use Rattle.event_texts.proofs.state_text.push_links.Goals as goal

pub loop-port-preserved : goal.loop-port-preserved
loop-port-preserved g c =
    let state = c.args.state.now in
    let payloads = payload_texts g.P.Payload.PayloadText in
    let same : 0 + c.loop-port.port ≡ c.loop-port.port = omega arith in
    texts-more (λ port. link_text payloads c.args.v (neighbour_of state.net c.args.v port) (link_at state.state.links c.args.v port))
    0 c.loop-port.port c.loop-port.port c.args.text.now.items c.loop-port.text.items c.push_link.new.text.items same
    c.loop-port.invariant c.in_ok-push_link.ensures

pub loop-port-init : goal.loop-port-init
loop-port-init g c = sym (append-nil c.args.text.now.items)

pub returns : goal.returns
returns g c =
    let state = c.args.state.now in
    let payloads = payload_texts g.P.Payload.PayloadText in
    c.loop-port.invariant
    ∙ ap (λ n. c.args.text.now.items ++ flat_map (λ port.
    link_text payloads c.args.v (neighbour_of state.net c.args.v port) (link_at state.state.links c.args.v port)) (range_with_len 0 n))
    (at_end c.loop-port.port c.degree-port-end.result (degree_of state.net c.args.v) c.loop-port.auto.port-end c.loop-port-test.false
    (c.degree-port-end.ensures.value ∙ ap (λ n. degree_of n c.args.v) c.network.ensures.network))

pub returns-in_err-push_link : goal.returns-in_err-push_link
returns-in_err-push_link g c = err_says _ _ c.from_residual.result c.from_residual.ensures.1
