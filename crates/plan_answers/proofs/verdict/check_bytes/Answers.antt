use Rattle.std.proofs.Common.{◌∙◌, ap}
use Rattle.std.proofs.lemmas.Result.{err_from_is_err_and}
use Rattle.plan_answers.specs.Verdicts.{verdict_text}
use Rattle.plan_answers.proofs.Judging.{AreParts, fault-reading, fault-rows, fault-text, proper-rows}
use Rattle.plan_answers.proofs.verdict.check_bytes.Goals as goal

pub returns-in_err-network-clause-fault : goal.returns-in_err-network-clause-fault
returns-in_err-network-clause-fault c =
    let p = err_from_is_err_and c.from_residual.result c.from_residual.ensures.1 in
    rw (p.1, p.2) (fault-text c.args.input.now c.split_plan.result.0.now c.in_err-network.field-0.0 c.split_plan.ensures.network c.in_err-network.ensures.fault)

pub returns-in_err-plan-clause-fault : goal.returns-in_err-plan-clause-fault
returns-in_err-plan-clause-fault c =
    let are : AreParts c.args.input.now c.split_plan.result.0.now c.split_plan.result.1.now = record {
      network = c.split_plan.ensures.network;
      plan =
          c.split_plan.ensures.plan;
    } in
    let p = err_from_is_err_and c.from_residual-in_err-plan.result c.from_residual-in_err-plan.ensures.1 in
    rw (p.1, p.2) (fault-reading c.args.input.now c.split_plan.result.0.now c.split_plan.result.1.now c.in_ok-network.network c.in_err-plan.field-0.0 are
    c.in_ok-network.ensures.ok c.in_err-plan.ensures.fault)

pub returns-in_err-greatest-clause-fault : goal.returns-in_err-greatest-clause-fault
returns-in_err-greatest-clause-fault c =
    let are : AreParts c.args.input.now c.split_plan.result.0.now c.split_plan.result.1.now = record {
      network = c.split_plan.ensures.network;
      plan =
          c.split_plan.ensures.plan;
    } in
    let p = err_from_is_err_and c.from_residual-in_err-greatest.result c.from_residual-in_err-greatest.ensures.1 in
    rw (p.1, p.2) (fault-rows c.args.input.now c.split_plan.result.0.now c.split_plan.result.1.now c.in_ok-network.network c.in_ok-plan.plan.rows.items
    c.in_err-greatest.field-0.0 are c.in_ok-network.ensures.ok c.in_ok-plan.ensures.ok c.in_err-greatest.ensures.fault)

pub returns-clause-ok : goal.returns-clause-ok
returns-clause-ok c =
    let are : AreParts c.args.input.now c.split_plan.result.0.now c.split_plan.result.1.now = record {
      network = c.split_plan.ensures.network;
      plan =
          c.split_plan.ensures.plan;
    } in
    proper-rows c.args.input.now c.split_plan.result.0.now c.split_plan.result.1.now c.in_ok-text_of_verdict.field-0.items c.in_ok-network.network
    c.in_ok-plan.plan.rows.items are c.in_ok-network.ensures.ok c.in_ok-plan.ensures.ok c.in_ok-greatest.ensures.proper
    (c.in_ok-text_of_verdict.ensures ∙ ap verdict_text c.in_ok-greatest.ensures.greatest)
