use Rattle.std.proofs.Common.{◌≡◌, ◌+◌, [], arith, ◌∙◌, ap}
use Rattle.event_rule.specs.State.{node_of}
use Rattle.event_texts.specs.Missing.{lacking_at}
use Rattle.number_rows.proofs.Ranges.{texts-more}
use Rattle.std.specs.List.{flat_map, range_with_len}
use Rattle.dimacs_col.proofs.Refused.{err_says}
use Rattle.interference.specs.Net.{degree_of}
use Rattle.event_texts.proofs.Written.{at_end}
use Rattle.event_texts.proofs.missing.lacking.Goals as goal

pub loop-port-preserved : goal.loop-port-preserved
loop-port-preserved g c =
    let state = c.args.state.now in
    let view = (node_of g.P.NodeProgram.program state.net state.state c.args.v).view in
    let same : 0 + c.loop-port.port ≡ c.loop-port.port = omega arith in
    texts-more (λ port. lacking_at state.net c.args.v view c.args.lack port) 0 c.loop-port.port c.loop-port.port [] c.loop-port.names.items
    c.push_lacking.new.names.items same c.loop-port.invariant c.in_ok-push_lacking.ensures

pub loop-port-init : goal.loop-port-init
loop-port-init g c = c.new-names.ensures.items

pub returns : goal.returns
returns g c =
    let state = c.args.state.now in
    let view = (node_of g.P.NodeProgram.program state.net state.state c.args.v).view in
    c.loop-port.invariant
    ∙ ap (λ n. flat_map (λ port. lacking_at state.net c.args.v view c.args.lack port) (range_with_len 0 n))
    (at_end c.loop-port.port c.degree-port-end.result (degree_of state.net c.args.v) c.loop-port.auto.port-end c.loop-port-test.false
    (c.degree-port-end.ensures.value ∙ ap (λ n. degree_of n c.args.v) c.network.ensures.network))

pub returns-in_err-push_lacking : goal.returns-in_err-push_lacking
returns-in_err-push_lacking g c = err_says _ _ c.from_residual.result c.from_residual.ensures.1
