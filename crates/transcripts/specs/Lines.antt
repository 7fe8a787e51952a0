-- The lines of the entries of all nodes in one order.
use Rattle.std.specs.Prelude.{◌≡◌, ℕ, List, ◌++◌, flat_map, length}
use Rattle.entries.specs.declared.rows.StampedEntry.{StampedEntry}
use Rattle.entries.specs.declared.rows.StampedRow.{StampedRow}
use Rattle.program_texts.specs.PayloadTexts.{PayloadTexts}
use Rattle.stamps.specs.Merged.{IsMerge, list_of}
use Rattle.transcripts.specs.TranscriptText.{stamped_row_text}

-- The new text is the old one and the lines of the entries of these lists, of which number v - 1 is that of vertex v:
-- in the order of the stamps and then of the vertices, each once.
abbrev pub AddsMerged : {M : Type 0} → PayloadTexts M → List (List (StampedEntry M)) → List ℕ → List ℕ → Type 0
AddsMerged {M} payloads lists old new = (rows : List (StampedRow M))
    × IsMerge (length lists) (list_of lists) rows
    × (new ≡ old ++ flat_map (stamped_row_text payloads) rows)
