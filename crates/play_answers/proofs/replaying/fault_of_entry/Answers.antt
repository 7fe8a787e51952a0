use Rattle.std.proofs.Common.{◌∙◌, ap, sym}
use Rattle.node_api.proofs.SlotCursor.{get-read}
use Rattle.program_texts.specs.PayloadTexts.{payload_texts}
use Rattle.play_answers.specs.ReplayAnswers.{words_text}
use Rattle.play_answers.proofs.RefusedLines.{index-within, entry-fault}
use Rattle.play_answers.proofs.replaying.fault_of_entry.Goals as goal

-- the refused entry is one of the entries
pub bounds-rows-index : goal.bounds-rows-index
bounds-rows-index g c =
    index-within g.P.NodeProgram.program c.args.network.now c.args.rows.now c.args.refused c.in-Some.index c.requires.stops
    (sym c.index_of.ensures ∙ c.in-Some.is)

pub returns-in-Ok-words_of : goal.returns-in-Ok-words_of
returns-in-Ok-words_of g c =
    let program = g.P.NodeProgram.program in
    let payloads = payload_texts g.P.Payload.PayloadText in
    let row = c.index-rows-index.result in
    let is = sym c.index_of.ensures ∙ c.in-Some.is in
    let within = index-within program c.args.network.now c.args.rows.now c.args.refused c.in-Some.index c.requires.stops is in
    let reached = c.in-Ok.state.state in
    entry-fault program payloads c.args.network.now c.args.rows.now c.args.lines.now c.args.refused c.fault_at.result
    (record {
      index = c.in-Some.index;
      is_index = is;
      row = row;
      is_row = get-read c.args.rows.now c.in-Some.index row within c.index-rows-index.is;
      reached = reached;
      is_replay = c.in-Ok.ensures.accepts;
      words = c.in-Ok-words_of.words;
      says = c.in-Ok-words_of.ensures ∙ ap (λ net. words_text program payloads net reached row c.args.refused) c.in-Ok.ensures.net;
      is_reported = c.fault_at.ensures;
    })
