use Rattle.std.proofs.Common.{map, refl, sym, ap, ◌∙◌, falls}
use Rattle.outcomes.specs.Meets.{history_of_met}
use Rattle.outcomes.specs.Outcome.{all_empty, none_held}
use Rattle.outcomes.proofs.Every.{all_passed, failed, passed}
use Rattle.outcomes.proofs.outcome.Outcome.all_empty.Goals as goal

pub loop-row-init : goal.loop-row-init
loop-row-init g c = refl

pub bounds-row-items-row-index : goal.bounds-row-items-row-index
bounds-row-items-row-index g c = c.loop-row-test.true

pub returns-then-not-none_held : goal.returns-then-not-none_held
returns-then-not-none_held g c = record {
  empty = failed all_empty none_held refl (λ h hs. refl) (λ row. map history_of_met row.items) c.as_slice-row-items.result.now
      c.loop-row.row-index c.loop-row.invariant c.row-item.result c.loop-row-test.true c.row-item.is
      (ap (λ l. none_held (map history_of_met l)) (sym c.as_slice.ensures.value) ∙ sym c.none_held.ensures.empty ∙ c.if-not-none_held.true)
      ∙ ap (λ l. all_empty (map (λ row. map history_of_met row.items) l)) c.as_slice-row-items.ensures.value
      ∙ ap (λ o. all_empty o.links) c.self.view_is;
}

pub loop-row-smaller : goal.loop-row-smaller
loop-row-smaller g c = falls _ _ c.loop-row-test.true

pub loop-row-preserved : goal.loop-row-preserved
loop-row-preserved g c =
    passed all_empty none_held refl (λ h hs. refl) (λ row. map history_of_met row.items) c.as_slice-row-items.result.now
    c.loop-row.row-index c.loop-row.invariant c.row-item.result c.loop-row-test.true c.row-item.is
    (ap (λ l. none_held (map history_of_met l)) (sym c.as_slice.ensures.value) ∙ sym c.none_held.ensures.empty ∙ c.if-not-none_held.false)

pub returns : goal.returns
returns g c = record {
  empty = all_passed all_empty none_held refl (λ h hs. refl) (λ row. map history_of_met row.items) c.as_slice-row-items.result.now
      c.loop-row.row-index c.loop-row.invariant c.loop-row-test.false
      ∙ ap (λ l. all_empty (map (λ row. map history_of_met row.items) l)) c.as_slice-row-items.ensures.value
      ∙ ap (λ o. all_empty o.links) c.self.view_is;
}
