-- The plan: an error says nothing; the text is what was appended, as the view of the node has it (last_written, lacks_written).
use Rattle.std.proofs.Common.{◌≡◌, ◌∙◌, ◌++◌, ap, ap₂, codes, nat_eq}
use Rattle.std.proofs.lemmas.Result.{IfOk-equal}
use Rattle.dimacs_col.proofs.Refused.{err_says}
use Rattle.node_api.specs.Program.{last_pulse_on}
use Rattle.alpha_core.specs.View.{is_halted}
use Rattle.event_rule.specs.State.{node_of}
use Rattle.event_texts.specs.Missing.{lack_text}
use Rattle.event_texts.proofs.Written.{lacks_written, last_written, words_none, words_some}
use Rattle.event_texts.proofs.missing.push_pulse.Goals as goal

pub returns-then-halted : goal.returns-then-halted
returns-then-halted g c =
    let net = c.args.state.now.net in
    let last = last_pulse_on g.P.NodeProgram.program net in
    let node = node_of g.P.NodeProgram.program net c.args.state.now.state c.args.v in
    let halted : c.halted.result ≡ is_halted last node.view =
    c.halted.ensures.halted ∙ ap₂ (λ l n. is_halted l n.view) c.node.ensures.last c.node.ensures.node in
    IfOk-equal c.push_last.result _ _ _ c.push_last.ensures
    (last_written net last c.args.v node.view c.args.text.now.items c.pulse_of-pulse.result c.pulse_of-pulse.ensures.pulse c.halted.result halted
    c.if-halted.true)

pub returns-then-is_empty : goal.returns-then-is_empty
returns-then-is_empty g c =
    let net = c.args.state.now.net in
    let last = last_pulse_on g.P.NodeProgram.program net in
    let node = node_of g.P.NodeProgram.program net c.args.state.now.state c.args.v in
    let halted : c.halted.result ≡ is_halted last node.view =
    c.halted.ensures.halted ∙ ap₂ (λ l n. is_halted l n.view) c.node.ensures.last c.node.ensures.node in
    let acks = c.in_ok-acks.acks.items in
    let text = c.args.text.now.items in
    let pulse = c.pulse_of-pulse.result in
    IfOk-equal c.push_lack-then-is_empty.result _ _ _ c.push_lack-then-is_empty.ensures
    (lacks_written net last c.args.v node.view text pulse c.pulse_of-pulse.ensures.pulse c.halted.result halted c.if-halted.false
    c.push_lack.new.text.items acks c.as_slice-then-is_empty.result.now (codes ": safe ")
    (c.in_ok-push_lack.ensures ∙ ap (λ l. text ++ lack_text (codes ": ack ") pulse l) c.as_slice.ensures.value) c.in_ok-acks.ensures
    (c.as_slice-then-is_empty.ensures.value ∙ c.in_ok-safes.ensures)
    (words_none acks c.is_empty.result (c.is_empty.ensures ∙ ap (λ n. nat_eq n 0) c.in_ok-acks.acks.ok.0) c.if-is_empty.true))

pub returns-in_err-acks : goal.returns-in_err-acks
returns-in_err-acks g c = err_says _ _ c.from_residual.result c.from_residual.ensures.1

pub returns-in_err-safes : goal.returns-in_err-safes
returns-in_err-safes g c = err_says _ _ c.from_residual-in_err-safes.result c.from_residual-in_err-safes.ensures.1

pub returns-in_err-push_lack : goal.returns-in_err-push_lack
returns-in_err-push_lack g c = err_says _ _ c.from_residual-in_err-push_lack.result c.from_residual-in_err-push_lack.ensures.1

pub returns : goal.returns
returns g c =
    let net = c.args.state.now.net in
    let last = last_pulse_on g.P.NodeProgram.program net in
    let node = node_of g.P.NodeProgram.program net c.args.state.now.state c.args.v in
    let halted : c.halted.result ≡ is_halted last node.view =
    c.halted.ensures.halted ∙ ap₂ (λ l n. is_halted l n.view) c.node.ensures.last c.node.ensures.node in
    let acks = c.in_ok-acks.acks.items in
    let text = c.args.text.now.items in
    let pulse = c.pulse_of-pulse.result in
    IfOk-equal c.push_lack-else-is_empty.result _ _ _ c.push_lack-else-is_empty.ensures
    (lacks_written net last c.args.v node.view text pulse c.pulse_of-pulse.ensures.pulse c.halted.result halted c.if-halted.false
    c.push_lack.new.text.items acks c.as_slice-else-is_empty.result.now (codes "; safe ")
    (c.in_ok-push_lack.ensures ∙ ap (λ l. text ++ lack_text (codes ": ack ") pulse l) c.as_slice.ensures.value) c.in_ok-acks.ensures
    (c.as_slice-else-is_empty.ensures.value ∙ c.in_ok-safes.ensures)
    (words_some acks c.is_empty.result (c.is_empty.ensures ∙ ap (λ n. nat_eq n 0) c.in_ok-acks.acks.ok.0) c.if-is_empty.false))
