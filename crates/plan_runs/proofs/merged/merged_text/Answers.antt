use Rattle.std.proofs.Common.{◌∙◌, ◌++◌, ap, arith, flat_map, length, map, subst, sym}
use Rattle.std.specs.Prelude.{All}
use Rattle.std.proofs.lemmas.List.{length-map}
use Rattle.std.proofs.lemmas.Result.{IfOk-from_err}
use Rattle.stamps.specs.Merged.{IsMerge, list_of}
use Rattle.stamps.specs.Stamps.{Rises}
use Rattle.transcripts.specs.TranscriptText.{first_line_of, stamped_row_text}
use Rattle.program_texts.specs.PayloadTexts.{payload_texts}
use Rattle.outcomes.specs.Gathers.{gathered_of}
use Rattle.plan_runs.specs.Transcripts.{stamped_edition}
use Rattle.plan_runs.proofs.merged.merged_text.Goals as goal

-- The plan: the lists are the entries of the nodes (are), so there are as many, and their stamps rise.
pub push_merged-requires-clause-few : goal.push_merged-requires-clause-few
push_merged-requires-clause-few g c =
    let nodes = map gathered_of c.args.actors.items in
    let are = c.in_ok-lefts.ensures ∙ ap (λ actors. map (λ node. node.entries) (map gathered_of actors)) c.as_slice.ensures.value in
    let many = ap length are ∙ length-map nodes (λ node. node.entries) ∙ length-map c.args.actors.items gathered_of ∙ c.requires.count in
    omega (arith, many)

pub push_merged-requires-clause-rising : goal.push_merged-requires-clause-rising
push_merged-requires-clause-rising g c κs within =
    let are = c.in_ok-lefts.ensures ∙ ap (λ actors. map (λ node. node.entries) (map gathered_of actors)) c.as_slice.ensures.value in
    subst (All Rises) (sym are) c.requires.rising

-- the lines of all entries are there, behind the first line
pub returns : goal.returns
returns g c =
    let nodes = map gathered_of c.args.actors.items in
    let wrote = map (λ node. node.entries) nodes in
    let are = c.in_ok-lefts.ensures ∙ ap (λ actors. map (λ node. node.entries) (map gathered_of actors)) c.as_slice.ensures.value in
    let line = stamped_row_text (payload_texts g.P.Payload.PayloadText) in
    let head = first_line_of (stamped_edition g.P.ProgramText.texts) c.args.count in
    let first = c.in_ok-push_edition_line.ensures ∙ ap (λ t. t ++ head) c.new-text.ensures.items in
    let all = c.in_ok-push_merged.ensures in (
      all.0,
      subst (λ n. IsMerge n (list_of wrote) all.0) (length-map nodes (λ node. node.entries))
          (subst (λ lists. IsMerge (length lists) (list_of lists) all.0) are all.1),
      all.2 ∙ ap (λ t. t ++ flat_map line all.0) first,
    )

pub returns-in_err-push_edition_line : goal.returns-in_err-push_edition_line
returns-in_err-push_edition_line g c = IfOk-from_err c.from_residual.result _ c.from_residual.ensures.0

pub returns-in_err-lefts : goal.returns-in_err-lefts
returns-in_err-lefts g c = IfOk-from_err c.from_residual-in_err-lefts.result _ c.from_residual-in_err-lefts.ensures.0

pub returns-in_err-push_merged : goal.returns-in_err-push_merged
returns-in_err-push_merged g c = IfOk-from_err c.from_residual-in_err-push_merged.result _ c.from_residual-in_err-push_merged.ensures.0
