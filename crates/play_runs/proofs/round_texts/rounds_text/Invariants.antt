use Rattle.std.proofs.Common.{◌≡◌, ◌+◌, ◌++◌, flat_map}
use Rattle.std.specs.List.{range_with_len}
use Rattle.sync_rounds.specs.Rounds.{AtPulse}
use Rattle.program_texts.specs.PayloadTexts.{payload_texts}
use Rattle.play_runs.specs.RoundsText.{pulse_text}
use Rattle.play_runs.proofs.round_texts.rounds_text.Given as goal

abbrev pub invariant-loop-done : goal.invariant-loop-done
invariant-loop-done g l =
    let here : AtPulse = record { net = l.net; pulse = l._done } in
    let texts = g.P.ProgramText.texts in
    let payloads = payload_texts g.P.Payload.PayloadText in
    record {
      rounds : l.rounds ≡ here;
      text : l.text.items ≡ texts.head l.net ++ flat_map (pulse_text g.P.NodeProgram.program texts payloads l.net)
          (range_with_len 0 (l._done + 1));
    }
