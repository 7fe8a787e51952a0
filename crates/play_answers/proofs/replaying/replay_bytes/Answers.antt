use Rattle.std.proofs.Common.{◌∙◌, ap, inl, inr, subst}
use Rattle.std.proofs.lemmas.Result.{err_from_is_err_and}
use Rattle.dimacs_col.specs.Lines.{lines_of}
use Rattle.event_texts.specs.StateText.{state_text}
use Rattle.program_texts.specs.PayloadTexts.{payload_texts}
use Rattle.play_answers.specs.ReplayAnswers.{IsFaultOfName, IsOfProgram}
use Rattle.play_answers.proofs.Replays.{fault-network, fault-transcript, in-step, reached}
use Rattle.play_answers.proofs.replaying.replay_bytes.Goals as goal

pub returns-in_err-network-clause-fault : goal.returns-in_err-network-clause-fault
returns-in_err-network-clause-fault g c =
    let program = g.P.NodeProgram.program in
    let payloads = payload_texts g.P.Payload.PayloadText in
    let p = err_from_is_err_and c.from_residual.result c.from_residual.ensures.1 in
    rw (p.1, p.2) (fault-network program payloads c.args.setting g.P.ProgramText.texts c.args.input.now c.network_text.result.now c.in_err-network.field-0.0
    c.network_text.ensures.network
    c.in_err-network.ensures.fault)

-- the program that the transcript names is the one that is played
pub returns-in_err-check_program-clause-fault : goal.returns-in_err-check_program-clause-fault
returns-in_err-check_program-clause-fault g c =
    let program = g.P.NodeProgram.program in
    let payloads = payload_texts g.P.Payload.PayloadText in
    let p = err_from_is_err_and c.from_residual-in_err-check_program.result c.from_residual-in_err-check_program.ensures.1 in
    rw (p.1, p.2) (fault-transcript program payloads c.args.setting g.P.ProgramText.texts c.args.input.now c.network_text.result.now
    c.in_ok-network.network c.in_err-check_program.field-0.0
    c.network_text.ensures.network c.in_ok-network.ensures.ok
    (inl (subst (λ name. IsFaultOfName name (lines_of c.args.input.now) c.in_err-check_program.field-0.0) c.name.ensures.name
    c.in_err-check_program.ensures.fault)))

pub returns-in_err-state-clause-fault : goal.returns-in_err-state-clause-fault
returns-in_err-state-clause-fault g c =
    let program = g.P.NodeProgram.program in
    let payloads = payload_texts g.P.Payload.PayloadText in
    let p = err_from_is_err_and c.from_residual-in_err-state.result c.from_residual-in_err-state.ensures.1 in
    rw (p.1, p.2) (fault-transcript program payloads c.args.setting g.P.ProgramText.texts c.args.input.now c.network_text.result.now
    c.in_ok-network.network c.in_err-state.field-0.0
    c.network_text.ensures.network c.in_ok-network.ensures.ok
    (inr (
      subst (λ name. IsOfProgram name (lines_of c.args.input.now)) c.name.ensures.name c.in_ok-check_program.ensures.ok,
      c.in_err-state.ensures.fault,
    )))

pub returns-clause-ok : goal.returns-clause-ok
returns-clause-ok g c =
    let program = g.P.NodeProgram.program in
    let payloads = payload_texts g.P.Payload.PayloadText in
    let texts = g.P.ProgramText.texts in
    let view = c.in_ok-state.state in
    reached program payloads c.args.setting texts c.args.input.now c.network_text.result.now c.in_ok-text_of_state.field-0.items
    c.in_ok-network.network view.state
    c.network_text.ensures.network c.in_ok-network.ensures.ok c.in_ok-state.ensures.ok
    (c.in_ok-text_of_state.ensures.text ∙ ap (λ net. state_text program texts payloads net view.state) c.in_ok-state.ensures.net)
    (λ ok. in-step program payloads c.in_ok-network.network view.state _ c.in_ok-state.ensures.ok (λ events ran v vertex.
    ((c.every_run_simulates.ensures.law program g.P.NodeProgram.laws c.in_ok-network.network ok events view.state ran).fits v vertex).state))
    c.rounds_solve.ensures.law
    (subst (λ name. IsOfProgram name (lines_of c.args.input.now)) c.name.ensures.name c.in_ok-check_program.ensures.ok)
