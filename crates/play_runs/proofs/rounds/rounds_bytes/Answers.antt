use Rattle.std.proofs.Common.{◌≡◌, ◌∙◌, ap}
use Rattle.dimacs_col.specs.Lines.{lines_of}
use Rattle.interference.specs.Net.{IsNetwork}
use Rattle.node_api.specs.Run.{last_state}
use Rattle.play_runs.specs.RoundsText.{rounds_text}
use Rattle.program_texts.specs.PayloadTexts.{payload_texts}
use Rattle.play_inputs.proofs.Settings.{lines-more}
use Rattle.play_runs.proofs.rounds.rounds_bytes.Goals as goal

-- the last states of the network that was read are what the program is for
pub returns-clause-ok : goal.returns-clause-ok
returns-clause-ok g c =
    let program = g.P.NodeProgram.program in
    let texts = g.P.ProgramText.texts in
    let payloads = payload_texts g.P.Payload.PayloadText in
    let net = c.in_ok-network.network in
    let text = c.in_ok-rounds_text.field-0.items in
    let rounds = rounds_text program texts payloads in
    lines-more c.args.setting (lines_of c.args.input.now) (λ read. IsNetwork read × (net ≡ read))
    (λ read. IsNetwork read × (text ≡ rounds read) × texts.Solves read (last_state program read))
    (λ read both. (both.0, c.in_ok-rounds_text.ensures.text ∙ ap rounds both.1, c.rounds_solve.ensures.law read both.0))
    c.in_ok-network.ensures.ok
