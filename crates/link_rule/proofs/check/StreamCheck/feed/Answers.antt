use Rattle.std.proofs.Common.{◌∷◌, [], ◌++◌, sym, ap, ◌∙◌, subst, arith}
use Rattle.link_rule.specs.Progress.{Progress, WasFed}
use Rattle.link_rule.proofs.Feeds.{fed_more, not_above, not_fed}
use Rattle.link_rule.proofs.check.StreamCheck.feed.Goals as goal

-- the stamp isn't above the last one
pub returns-then-item-self-clause-fed : goal.returns-then-item-self-clause-fed
returns-then-item-self-clause-fed g c = λ items fed order rise.
    let same = ap (λ (p : Progress). p.stamp) c.self.view_is in
    not_above c.args.self.now items c.args.item.now fed (omega (arith, c.if-item-self.true, same)) rise

-- the wire doesn't go on
pub returns-then-not-step-clause-fed : goal.returns-then-not-step-clause-fed
returns-then-not-step-clause-fed g c = λ items fed order rise.
    not_fed c.args.self.now c.step.new.self items c.args.item.now fed (sym c.if-not-step.true ∙ c.step.ensures.goes_on) c.step.ensures.progress order

pub returns-clause-fed : goal.returns-clause-fed
returns-clause-fed g c = λ items fed.
    let same = ap (λ (p : Progress). p.stamp) c.self.view_is in
    subst (λ (p : Progress). WasFed record p { stamp = c.args.item.now.stamp } (items ++ c.args.item.now ∷ [])) (sym c.self-2.view_is)
    (fed_more c.args.self.now c.step.new.self items c.args.item.now fed (omega (arith, c.if-item-self.false, same))
    (sym c.if-not-step.false ∙ c.step.ensures.goes_on) c.step.ensures.progress)
