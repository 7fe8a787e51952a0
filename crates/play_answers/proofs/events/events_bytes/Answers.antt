use Rattle.std.proofs.Common.{◌∙◌, Ok, ap, sym}
use Rattle.std.proofs.lemmas.Result.{err_from_is_err_and}
use Rattle.event_texts.specs.Played.{events_in}
use Rattle.event_texts.specs.StateText.{state_text}
use Rattle.program_texts.specs.PayloadTexts.{payload_texts}
use Rattle.play_answers.proofs.Playing.{fault-network, fault-reading, fault-run, reached}
use Rattle.play_answers.proofs.events.events_bytes.Goals as goal

pub returns-in_err-network-clause-fault : goal.returns-in_err-network-clause-fault
returns-in_err-network-clause-fault g c =
    let p = err_from_is_err_and c.from_residual.result c.from_residual.ensures.1 in
    rw (p.1, p.2) (fault-network g.P.NodeProgram.program c.args.setting c.args.input.now c.network_text.result.now c.in_err-network.field-0.0
    c.network_text.ensures.network c.in_err-network.ensures.fault)

pub returns-in_err-script-clause-fault : goal.returns-in_err-script-clause-fault
returns-in_err-script-clause-fault g c =
    let p = err_from_is_err_and c.from_residual-in_err-script.result c.from_residual-in_err-script.ensures.1 in
    rw (p.1, p.2) (fault-reading g.P.NodeProgram.program c.args.setting c.args.input.now c.network_text.result.now c.in_ok-network.network
    c.in_err-script.field-0.0 c.network_text.ensures.network
    c.in_ok-network.ensures.ok c.in_err-script.ensures.fault)

pub returns-in_err-state-clause-fault : goal.returns-in_err-state-clause-fault
returns-in_err-state-clause-fault g c =
    let p = err_from_is_err_and c.from_residual-in_err-state.result c.from_residual-in_err-state.ensures.1 in
    rw (p.1, p.2) (fault-run g.P.NodeProgram.program c.args.setting c.args.input.now c.network_text.result.now c.in_ok-network.network c.as_slice.result.now
    c.in_err-state.field-0.0
    c.network_text.ensures.network c.in_ok-network.ensures.ok (c.in_ok-script.ensures.ok ∙ ap Ok (sym c.as_slice.ensures.value)) c.in_err-state.ensures.fault)

pub returns-clause-ok : goal.returns-clause-ok
returns-clause-ok g c =
    let program = g.P.NodeProgram.program in
    let payloads = payload_texts g.P.Payload.PayloadText in
    let texts = g.P.ProgramText.texts in
    let view = c.in_ok-state.state in
    reached program c.args.setting texts payloads c.args.input.now c.network_text.result.now c.in_ok-text_of_state.field-0.items c.in_ok-network.network
    c.as_slice.result.now view.state
    c.network_text.ensures.network c.in_ok-network.ensures.ok (c.in_ok-script.ensures.ok ∙ ap Ok (sym c.as_slice.ensures.value)) c.in_ok-state.ensures.ok
    (c.in_ok-text_of_state.ensures.text ∙ ap (λ net. state_text program texts payloads net view.state) c.in_ok-state.ensures.net)
    (λ ok v vertex. ((c.every_run_simulates.ensures.law program g.P.NodeProgram.laws c.in_ok-network.network ok
    (events_in c.as_slice.result.now) view.state c.in_ok-state.ensures.ok).fits v vertex).state)
    c.rounds_solve.ensures.law
