use Rattle.std.proofs.Common.{Err, Ok, ap, sym, ◌∙◌}
use Rattle.event_rule.specs.Refusals.{at_index}
use Rattle.event_rule.specs.Step.{go_on}
use Rattle.net_core.proofs.running.make.Goals as goal

pub returns-in-Ok-clause-made : goal.returns-in-Ok-clause-made
returns-in-Ok-clause-made g c = ap (λ r. go_on c.args.index r (λ next. Ok next)) c.in-Ok.ensures.step

pub returns-in-Err-clause-refused : goal.returns-in-Err-clause-refused
returns-in-Err-clause-refused g c =
    λ never. ap (λ r. go_on c.args.index r (λ next. Ok next))
    (c.in-Err.ensures.step (λ e. never (c.at.ensures.index ∙ ap (λ r. at_index c.args.index r) e)))
    ∙ ap (λ r. Err r) (sym c.at.ensures.index)
