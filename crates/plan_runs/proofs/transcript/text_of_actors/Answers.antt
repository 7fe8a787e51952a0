use Rattle.std.proofs.Common.{◌++◌, [], ◌∙◌, ap, ap₂, append-nil, append_assoc, flat_map, map, map-id, rules, sym}
use Rattle.std.proofs.lemmas.Grind.{flat_map-append}
use Rattle.std.proofs.lemmas.Iterator.Adapters.{YieldsList-from_vec}
use Rattle.std.proofs.lemmas.Iterator.Consumers.{YieldsList-end}
use Rattle.std.proofs.lemmas.List.{flat_map_more}
use Rattle.std.proofs.lemmas.List.Folds.{flat_map-map}
use Rattle.std.proofs.lemmas.Result.{IfOk-from_err}
use Rattle.entries.specs.Rows.{bare_of, vertex_row}
use Rattle.outcomes.specs.Gathers.{gathered_of}
use Rattle.program_texts.specs.PayloadTexts.{payload_texts}
use Rattle.transcripts.specs.TranscriptText.{first_line, row_text}
use Rattle.plan_runs.specs.Transcripts.{rows_in}
use Rattle.plan_runs.proofs.transcript.text_of_actors.Goals as goal

-- the first line is there
pub loop-actor-init : goal.loop-actor-init
loop-actor-init g c =
    let first = first_line c.args.count in
    c.in_ok-push_first_line.ensures.text ∙ ap (λ t. t ++ first) c.new-text.ensures.items ∙ sym (append-nil first)

-- the lines of one node more
pub loop-actor-preserved : goal.loop-actor-preserved
loop-actor-preserved g c =
    let actor = c.in-Some.actor in
    let first = first_line c.args.count in
    let lines = flat_map (row_text (payload_texts g.P.Payload.PayloadText)) in
    let before = flat_map (λ a. rows_in (gathered_of a)) c.loop-actor.yielded in
    c.in_ok-pushed.ensures.text
    ∙ ap₂ (λ v entries. c.loop-actor.text.items ++ lines (map (λ entry. vertex_row v entry) (bare_of entries.items))) c.node.ensures.vertex
    c.entries.ensures.entries
    ∙ ap (λ l. l ++ lines (rows_in (gathered_of actor))) c.loop-actor.invariant
    ∙ append_assoc first (lines before) (lines (rows_in (gathered_of actor)))
    ∙ ap (λ l. first ++ l)
    (sym (flat_map-append (row_text (payload_texts g.P.Payload.PayloadText)) before (rows_in (gathered_of actor)))
    ∙ ap lines (flat_map_more (λ a. rows_in (gathered_of a)) [] c.loop-actor.yielded actor))

-- at the end the lines of all nodes are there
pub returns : goal.returns
returns g c =
    let end = YieldsList-end (YieldsList-from_vec {s = c.into_iter-actor-iterator.result} c.args.actors.items (search rules) (search rules))
    c.loop-actor.yielded c.loop-actor.actor-iterator c.loop-actor.yielded_by c.next.result c.next.new.self c.in-None.is c.next.ensures.steps in
    let all = sym (map-id c.loop-actor.yielded) ∙ end.0 in
    c.loop-actor.invariant
    ∙ ap (λ rows. first_line c.args.count ++ flat_map (row_text (payload_texts g.P.Payload.PayloadText)) rows)
    (ap (flat_map (λ a. rows_in (gathered_of a))) all ∙ sym (flat_map-map rows_in gathered_of c.args.actors.items))

pub returns-in_err-push_first_line : goal.returns-in_err-push_first_line
returns-in_err-push_first_line g c = IfOk-from_err c.from_residual.result _ c.from_residual.ensures.0

pub returns-in_err-pushed : goal.returns-in_err-pushed
returns-in_err-pushed g c = IfOk-from_err c.from_residual-in_err-pushed.result _ c.from_residual-in_err-pushed.ensures.0
