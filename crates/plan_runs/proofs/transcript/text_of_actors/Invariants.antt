use Rattle.std.proofs.Common.{◌≡◌, ◌++◌, flat_map}
use Rattle.outcomes.specs.Gathers.{gathered_of}
use Rattle.program_texts.specs.PayloadTexts.{payload_texts}
use Rattle.transcripts.specs.TranscriptText.{first_line, row_text}
use Rattle.plan_runs.specs.Transcripts.{rows_in}
use Rattle.plan_runs.proofs.transcript.text_of_actors.Given as goal

-- the lines of the nodes so far
abbrev pub invariant-loop-actor : goal.invariant-loop-actor
invariant-loop-actor g l = l.text.items ≡ first_line l.count
    ++ flat_map (row_text (payload_texts g.P.Payload.PayloadText)) (flat_map (λ actor. rows_in (gathered_of actor)) l.yielded)
