use Rattle.std.proofs.Common.{◌∙◌, All, ap, length, map, subst, sym, true}
use Rattle.std.proofs.lemmas.Result.{err_from_is_err_and}
use Rattle.std.proofs.lemmas.List.{length-map}
use Rattle.outcomes.specs.Gathers.{gathered_of}
use Rattle.stamps.specs.Stamps.{Rises}
use Rattle.program_texts.specs.PayloadTexts.{payload_texts}
use Rattle.outcomes.specs.Merged.{WholeOutcomesReplay}
use Rattle.plan_runs.specs.Transcripts.{IsTextIn, stamped_edition}
use Rattle.plan_runs.proofs.Recording.{all-rise, answered, nodes-count}
use Rattle.plan_runs.proofs.Working.{transcript-fault}
use Rattle.plan_runs.proofs.transcript.run_transcript.Goals as goal

-- The plan: the nodes of a whole outcome are as many as vertices, and their stamps rise; the text of its nodes in the
-- edition is the transcript.
pub text_in-requires-clause-count : goal.text_in-requires-clause-count
text_in-requires-clause-count g c = λ lives within.
    let net = c.args.network in
    let outcome = c.in_ok-outcome.outcome in
    sym (length-map c.into_actors.result.items gathered_of) ∙ ap length c.into_actors.ensures.nodes
    ∙ nodes-count g.P.NodeProgram.program net c.args.options.capacity true outcome c.in_ok-outcome.ensures.outcome ∙ sym c.nodes-count.ensures.count

pub text_in-requires-clause-rising : goal.text_in-requires-clause-rising
text_in-requires-clause-rising g c = λ lives within.
    let net = c.args.network in
    let outcome = c.in_ok-outcome.outcome in
    subst (λ nodes. All Rises (map (λ node. node.entries) nodes)) (sym c.into_actors.ensures.nodes)
    (all-rise g.P.NodeProgram.program net c.args.options.capacity outcome c.in_ok-outcome.ensures.outcome)

pub returns-in-Ok-clause-ok : goal.returns-in-Ok-clause-ok
returns-in-Ok-clause-ok g c =
    let net = c.args.network in
    let outcome = c.in_ok-outcome.outcome in
    let text = c.in-Ok.text.items in
    let here = c.nodes-count.ensures.network in
    let law : WholeOutcomesReplay g.P.NodeProgram.program net = c.whole_outcomes_replay.ensures.law g.P.NodeProgram.program net here in
    let payloads = payload_texts g.P.Payload.PayloadText in
    let words = stamped_edition g.P.ProgramText.texts in
    answered g.P.NodeProgram.program payloads words text net c.args.options.capacity outcome
    c.in_ok-outcome.ensures.outcome c.in_ok-outcome.ensures.whole c.args.edition law
    (subst (λ n. IsTextIn payloads words c.args.edition n outcome.nodes text) c.nodes-count.ensures.count
    (subst (λ nodes. IsTextIn payloads words c.args.edition c.nodes-count.result nodes text) c.into_actors.ensures.nodes c.in-Ok.ensures))

pub returns-in_err-outcome-clause-fault : goal.returns-in_err-outcome-clause-fault
returns-in_err-outcome-clause-fault g c =
    let p = err_from_is_err_and c.from_residual.result c.from_residual.ensures.1 in
    rw (p.1, p.2) (transcript-fault g.P.NodeProgram.program c.args.network c.args.options c.in_err-outcome.field-0.0
    c.in_err-outcome.ensures.fault)
