use Rattle.std.proofs.Common.{◌≡◌, ◌∙◌, ap}
use Rattle.dimacs_col.specs.Lines.{lines_of}
use Rattle.interference.specs.Net.{IsNetwork}
use Rattle.node_api.specs.Run.{last_state}
use Rattle.play_inputs.proofs.Settings.{lines-more}
use Rattle.play_runs.specs.Ends.{ends_text}
use Rattle.play_runs.proofs.last_states.ends_bytes.Goals as goal

-- the last states of the network that was read are what the program is for
pub returns-clause-ok : goal.returns-clause-ok
returns-clause-ok g c =
    let program = g.P.NodeProgram.program in
    let texts = g.P.ProgramText.texts in
    let net = c.in_ok-network.network in
    let text = c.in_ok-text_of_states.field-0.items in
    lines-more c.args.setting (lines_of c.args.input.now) (λ read. IsNetwork read × (net ≡ read))
    (λ read. IsNetwork read × (text ≡ ends_text program texts read) × texts.Solves read (last_state program read))
    (λ read both. (both.0, c.in_ok-text_of_states.ensures.text ∙ ap (ends_text program texts) both.1, c.rounds_solve.ensures.law read both.0))
    c.in_ok-network.ensures.ok
