-- What a vertex sends at a pulse, in the lines of a transcript.
use Rattle.std.specs.Prelude.{ℕ, Option, Some, None, List, [], flat_map}
use Rattle.interference.specs.Net.{Net, neighbours, port_to}
use Rattle.node_api.specs.Boxes.{at_port}
use Rattle.wires.specs.declared.wire.Wire.TheVariants.{Payload}
use Rattle.entries.specs.declared.entry.Entry.TheVariants.{Put}
use Rattle.entries.specs.Rows.{vertex_row}
use Rattle.program_texts.specs.PayloadTexts.{PayloadTexts}
use Rattle.transcripts.specs.TranscriptText.{row_text}

module _ {M : Type 0} (payloads : PayloadTexts M) where
  -- what v sends w at a pulse: the line of the entry, or none if it sends nothing
  abbrev pub put_text : ℕ → ℕ → ℕ → Option M → List ℕ
  put_text p v w None = []
  put_text p v w (Some payload) = row_text payloads (vertex_row v (Put w (Payload p payload)))

  -- what v sends at a pulse by this outbox, by ascending neighbour
  abbrev pub puts_text : Net → ℕ → ℕ → List (Option M) → List ℕ
  puts_text net p v out = flat_map (λ w. put_text p v w (at_port out (port_to net v w))) (neighbours net v)
