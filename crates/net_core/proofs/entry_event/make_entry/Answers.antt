-- The plan: the event of the row names a vertex and a port that are there, or none (nowhere). It is that of the definition
-- (is-of); so its step is the definition's, and the test of what it writes down is one of the row.
use Rattle.std.proofs.Common.{◌≡◌, ◌∙◌, false, ap, subst, sym}
use Rattle.std.proofs.lemmas.Result.{IfOk-from_err}
use Rattle.event_rule.specs.Step.{step}
use Rattle.net_core.specs.declared.refused.EntryRefused.TheVariants.{Step}
use Rattle.net_core.specs.Replays.{IsRefusedEntry}
use Rattle.event_rule.specs.Rows.{event_of, has_place, row_of}
use Rattle.net_core.proofs.Missing.{nowhere, refused-step}
use Rattle.net_core.proofs.entry_event.make_entry.Goals as goal
use Rattle.net_core.proofs.entry_event.make_entry.Goals.{In-Some}

is-of : (g : _) (c : In-Some g) → c.in-Some.event ≡ event_of c.args.state.now.net c.args.row.now
is-of g c = c.in-Some.ensures.event ∙ ap (λ n. event_of n c.args.row.now) c.network.ensures.network

pub returns-in_default-clause-refused : goal.returns-in_default-clause-refused
returns-in_default-clause-refused g c =
    let old = c.args.state.now in
    let row = c.args.row.now in
    λ never. nowhere g.P.NodeProgram.program old.net old.state (event_of old.net row)
    (subst (λ n. has_place n (event_of n row) ≡ false) c.network.ensures.network c.in_default.ensures.none)

pub returns-in_err-step-clause-made : goal.returns-in_err-step-clause-made
returns-in_err-step-clause-made g c = IfOk-from_err c.from_residual.result _ c.from_residual.ensures.0

pub returns-in_err-step-clause-refused : goal.returns-in_err-step-clause-refused
returns-in_err-step-clause-refused g c =
    let old = c.args.state.now in
    let at = (goal.at.returns-in_err-step-clause-refused g c).In-Some in
    refused-step c.from_residual.result (IsRefusedEntry g.P.NodeProgram.program old c.args.row.now) c.in_err-step.field-0.0 c.from_residual.ensures.1
    (λ never. ap (λ e. step g.P.NodeProgram.program old.net old.state e) (sym (is-of g at)) ∙ c.in_err-step.ensures.step (λ e. never (ap Step e)))

pub returns-then-is_written-clause-made : goal.returns-then-is_written-clause-made
returns-then-is_written-clause-made g c =
    let program = g.P.NodeProgram.program in
    let old = c.args.state.now in
    let of = is-of g (goal.at.returns-then-is_written-clause-made g c).In-Some in
    record {
      net = c.step.ensures.net;
      leads = ap (λ e. step program old.net old.state e) (sym of) ∙ c.in_ok-step.ensures.step;
      writes = ap (λ e. row_of program old.net old.state e) (sym of) ∙ c.if-is_written.ensures;
    }

pub returns-else-is_written-clause-refused : goal.returns-else-is_written-clause-refused
returns-else-is_written-clause-refused g c =
    let program = g.P.NodeProgram.program in
    let old = c.args.state.now in
    let of = is-of g (goal.at.returns-else-is_written-clause-refused g c).In-Some in
    λ never. (
      c.step.new.self.state,
      ap (λ e. step program old.net old.state e) (sym of) ∙ c.in_ok-step.ensures.step,
      λ same. c.if-is_written.ensures (ap (λ e. row_of program old.net old.state e) of ∙ same),
    )
