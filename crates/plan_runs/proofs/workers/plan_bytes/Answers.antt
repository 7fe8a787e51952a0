use Rattle.std.proofs.Common.{◌∙◌, false, ap, sym, map}
use Rattle.std.proofs.lemmas.Result.{err_from_is_err_and}
use Rattle.std.proofs.lemmas.Simd.{map-map}
use Rattle.channel_plan.specs.PlanText.{plan_of}
use Rattle.colour_rules.specs.Program.{colouring}
use Rattle.outcomes.specs.Gathers.{gathered_of}
use Rattle.plan_runs.specs.Colours.{merged_of}
use Rattle.plan_runs.proofs.Working.{planned, workers-fault}
use Rattle.plan_runs.proofs.workers.plan_bytes.Goals as goal

pub returns-clause-ok : goal.returns-clause-ok
returns-clause-ok g c =
    let net = c.in_ok-network.network in
    let outcome = c.in_ok-outcome.outcome in
    let capacity = c.args.options.capacity in
    let ok = c.in_ok-network.ensures.network in
    let is = c.in_ok-outcome.ensures.outcome in
    let complete = c.whole_outcomes_are_complete.ensures.law colouring net ok capacity false outcome is c.in_ok-outcome.ensures.whole in
    let coloured = c.halted_nodes_are_coloured.ensures.outcomes net ok capacity false outcome is complete.halted in
    planned c.args.input.now c.in_ok-text_of_nodes.field-0.items net outcome c.in_ok-network.ensures.ok
    (c.in_ok-text_of_nodes.ensures ∙ ap plan_of (sym (map-map merged_of gathered_of c.actors.result.now) ∙ ap (map merged_of) c.actors.ensures.nodes))
    is.each_once coloured.exact (c.colours_are_proper.ensures.proper net ok) (c.colours_are_proper.ensures.within net ok)
    (c.colours_are_proper.ensures.unbarred net ok)

pub returns-in_err-outcome-clause-fault : goal.returns-in_err-outcome-clause-fault
returns-in_err-outcome-clause-fault g c =
    let p = err_from_is_err_and c.from_residual-in_err-outcome.result c.from_residual-in_err-outcome.ensures.1 in
    rw (p.1, p.2) (workers-fault colouring c.args.input.now c.in_ok-network.network c.args.options false c.in_err-outcome.field-0.0
    c.in_ok-network.ensures.ok c.in_err-outcome.ensures.fault)
