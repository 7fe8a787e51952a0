use Rattle.std.proofs.Common.{map, refl, sym, ap, ◌∙◌, falls}
use Rattle.alpha_core.specs.View.{is_drained}
use Rattle.outcomes.specs.Gathers.{gathered_of}
use Rattle.outcomes.specs.Outcome.{all_drained}
use Rattle.outcomes.proofs.Every.{all_passed, failed, passed}
use Rattle.outcomes.proofs.outcome.Outcome.all_drained.Goals as goal

pub loop-actor-init : goal.loop-actor-init
loop-actor-init g c = refl

pub bounds-actor-items-actor-index : goal.bounds-actor-items-actor-index
bounds-actor-items-actor-index g c = c.loop-actor-test.true

pub returns-then-not-drained : goal.returns-then-not-drained
returns-then-not-drained g c = record {
  drained = failed all_drained (λ x. is_drained x.alpha.last x.alpha.node.view) refl (λ x xs. refl) gathered_of
      c.as_slice-actor-items.result.now c.loop-actor.actor-index c.loop-actor.invariant c.actor-item.result c.loop-actor-test.true
      c.actor-item.is
      (ap (λ a. is_drained a.last a.node.view) (sym c.alpha.ensures.alpha) ∙ sym c.drained.ensures.drained ∙ c.if-not-drained.true)
      ∙ ap (λ l. all_drained (map gathered_of l)) c.as_slice-actor-items.ensures.value
      ∙ ap (λ o. all_drained o.nodes) c.self.view_is;
}

pub loop-actor-smaller : goal.loop-actor-smaller
loop-actor-smaller g c = falls _ _ c.loop-actor-test.true

pub loop-actor-preserved : goal.loop-actor-preserved
loop-actor-preserved g c =
    passed all_drained (λ x. is_drained x.alpha.last x.alpha.node.view) refl (λ x xs. refl) gathered_of
    c.as_slice-actor-items.result.now c.loop-actor.actor-index c.loop-actor.invariant c.actor-item.result c.loop-actor-test.true
    c.actor-item.is
    (ap (λ a. is_drained a.last a.node.view) (sym c.alpha.ensures.alpha) ∙ sym c.drained.ensures.drained ∙ c.if-not-drained.false)

pub returns : goal.returns
returns g c = record {
  drained = all_passed all_drained (λ x. is_drained x.alpha.last x.alpha.node.view) refl (λ x xs. refl) gathered_of
      c.as_slice-actor-items.result.now c.loop-actor.actor-index c.loop-actor.invariant c.loop-actor-test.false
      ∙ ap (λ l. all_drained (map gathered_of l)) c.as_slice-actor-items.ensures.value
      ∙ ap (λ o. all_drained o.nodes) c.self.view_is;
}
