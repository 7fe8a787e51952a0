use Rattle.std.proofs.Common.{◌≡◌, ◌++◌, flat_map, map}
use Rattle.entries.specs.Rows.{bare_of, vertex_row}
use Rattle.program_texts.specs.PayloadTexts.{payload_texts}
use Rattle.transcripts.specs.TranscriptText.{row_text}
use Rattle.transcripts.proofs.node_lines.push_entries.Given as goal

-- the lines so far, and those of the entries that are left, are the lines of all
abbrev pub invariant-loop-entry : goal.invariant-loop-entry
invariant-loop-entry g l =
    let payloads = payload_texts g.T.PayloadText in
    l.text.items ++ flat_map (row_text payloads) (map (λ entry. vertex_row l.vertex entry) l.entry-iterator)
    ≡ l.fn.text.items ++ flat_map (row_text payloads) (map (λ entry. vertex_row l.vertex entry) (bare_of l.entries.items))
