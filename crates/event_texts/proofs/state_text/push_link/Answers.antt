use Rattle.std.proofs.Common.{◌≡◌, ◌∙◌, ◌++◌, ap, codes, length, rules}
use Rattle.std.specs.List.{flat_map}
use Rattle.dimacs_col.proofs.Refused.{err_says}
use Rattle.interference.specs.Net.{neighbour_of}
use Rattle.event_rule.specs.State.{link_at}
use Rattle.number_rows.specs.Row.{numbered}
use Rattle.program_texts.specs.PayloadTexts.{payload_texts}
use Rattle.program_texts.specs.WireText.{wire_text}
use Rattle.number_rows.proofs.Ranges.{behind}
use Rattle.event_texts.proofs.state_text.push_link.Goals as goal

pub returns : goal.returns
returns g c =
    let net = c.args.state.now.net in
    let payloads = payload_texts g.P.Payload.PayloadText in
    let wire_words = wire_text payloads in
    let v = c.args.v in
    let link = link_at c.args.state.now.state.links v c.args.port in
    let text = c.args.text.now.items in
    let w : c.neighbour.result ≡ neighbour_of net v c.args.port =
    c.neighbour.ensures.value ∙ ap (λ known. neighbour_of known v c.args.port) c.network.ensures.network in
    let first = numbered (codes "link ") v in
    let second = numbered (codes " ") (neighbour_of net v c.args.port) in
    let third = numbered (codes " taken ") (length link.taken) in
    let fourth = flat_map wire_words link.held in
    let t1 : c.push_numbered.new.text.items ≡ text ++ first = search rules in
    let t2 = behind text first second c.push_numbered.new.text.items c.push_numbered-2.new.text.items t1
    (c.in_ok-push_numbered-2.ensures ∙ ap (λ n. c.push_numbered.new.text.items ++ numbered (codes " ") n) (c.from-2.ensures ∙ w)) in
    let t3 = behind text (first ++ second) third c.push_numbered-2.new.text.items c.push_numbered-3.new.text.items t2
    (c.in_ok-push_numbered-3.ensures ∙ ap (λ n. c.push_numbered-2.new.text.items ++ numbered (codes " taken ") n) c.link-taken.ensures.taken) in
    let t4 = behind text (first ++ second ++ third) fourth c.push_numbered-3.new.text.items c.push_wires.new.text.items t3
    (c.in_ok-push_wires.ensures ∙ ap (λ ws. c.push_numbered-3.new.text.items ++ flat_map wire_words ws) c.link-taken.ensures.held) in
    behind text (first ++ second ++ third ++ fourth) (codes "\n") c.push_wires.new.text.items c.push.new.self.items t4 c.in_ok-push.ensures.items

pub returns-in_err-push_numbered : goal.returns-in_err-push_numbered
returns-in_err-push_numbered g c = err_says _ _ c.from_residual.result c.from_residual.ensures.1

pub returns-in_err-push_numbered-2 : goal.returns-in_err-push_numbered-2
returns-in_err-push_numbered-2 g c = err_says _ _ c.from_residual-in_err-push_numbered-2.result c.from_residual-in_err-push_numbered-2.ensures.1

pub returns-in_err-push_numbered-3 : goal.returns-in_err-push_numbered-3
returns-in_err-push_numbered-3 g c = err_says _ _ c.from_residual-in_err-push_numbered-3.result c.from_residual-in_err-push_numbered-3.ensures.1

pub returns-in_err-push_wires : goal.returns-in_err-push_wires
returns-in_err-push_wires g c = err_says _ _ c.from_residual-in_err-push_wires.result c.from_residual-in_err-push_wires.ensures.1

pub returns-in_err-push : goal.returns-in_err-push
returns-in_err-push g c = err_says _ _ c.from_residual-in_err-push.result c.from_residual-in_err-push.ensures.1
