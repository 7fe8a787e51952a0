use Rattle.plan_answers.proofs.Plain.{plain}
use Rattle.plan_answers.proofs.answer.plain_bytes.Goals as goal

pub returns-clause-ok : goal.returns-clause-ok
returns-clause-ok c =
    let net = c.in_ok-network.network in
    let ok = c.in_ok-network.ensures.network in
    plain c.args.input.now c.in_ok-text_of_plan.field-0.items net c.in_ok-network.ensures.ok c.in_ok-text_of_plan.ensures
    (c.colours_are_proper.ensures.proper net ok) (c.colours_are_proper.ensures.within net ok) (c.colours_are_proper.ensures.unbarred net ok)
