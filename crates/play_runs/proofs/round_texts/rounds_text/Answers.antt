use Rattle.std.proofs.Common.{◌≡◌, ◌∙◌, ◌+◌, ◌++◌, ap, arith}
use Rattle.sync_rounds.specs.Rounds.{AtPulse}
use Rattle.program_texts.specs.PayloadTexts.{payload_texts}
use Rattle.play_runs.specs.RoundsText.{pulse_text}
use Rattle.number_rows.proofs.Ranges.{texts-more}
use Rattle.play_runs.proofs.round_texts.rounds_text.Goals as goal

pub loop-done-preserved : goal.loop-done-preserved
loop-done-preserved g c =
    let net = c.args.net.now in
    let texts = g.P.ProgramText.texts in
    let payloads = payload_texts g.P.Payload.PayloadText in
    let pulse_lines = pulse_text g.P.NodeProgram.program texts payloads in
    let p = c.loop-done._done + 1 in
    let next : AtPulse = record { net = net; pulse = p } in
    let step : AtPulse → AtPulse = λ at. record { net = at.net; pulse = at.pulse + 1 } in
    let is_next : c.step.new.self ≡ next = c.step.ensures.step ∙ ap step c.loop-done.invariant.rounds in
    let same : 0 + p ≡ p = omega arith in
    record {
      rounds = is_next;
      text = texts-more (pulse_lines net) 0 p p (texts.head net) c.loop-done.text.items c.push_pulse-in-loop-done.new.text.items same
          c.loop-done.invariant.text (c.in_ok-push_pulse-2.ensures
          ∙ ap (λ (at : AtPulse). c.loop-done.text.items ++ pulse_lines at.net at.pulse) is_next);
    }
