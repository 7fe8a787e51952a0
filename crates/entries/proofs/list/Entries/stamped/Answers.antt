use Rattle.std.proofs.Common.{length, sym, ap, ap₂, ◌∙◌}
use Rattle.entries.specs.Rows.{stamp_each}
use Rattle.entries.proofs.More.{items-bare, stamps-long}
use Rattle.entries.proofs.list.Entries.stamped.Goals as goal

-- there is a stamp for each entry
pub invariant_of-result : goal.invariant_of-result
invariant_of-result g c =
    let e = c.self.inside in
    let is = ap (λ v. v.items) c.self.view_is in
    ap (λ l. length l) c.iter.ensures.items ∙ stamps-long e.stamps.items e.bares.items e.payloads.items _ c.self.invariant.0 c.self.invariant.1 is
    ∙ ap (λ l. length l) (items-bare e.stamps.items e.bares.items e.payloads.items _ c.self.invariant.0 c.self.invariant.1 is
    ∙ sym c.iter-2.ensures.items)

pub returns : goal.returns
returns g c =
    let e = c.self.inside in
    let is = ap (λ v. v.items) c.self.view_is in
    record {
      items = ap₂ stamp_each c.iter.ensures.items (c.iter-2.ensures.items
          ∙ sym (items-bare e.stamps.items e.bares.items e.payloads.items _ c.self.invariant.0 c.self.invariant.1 is)) ∙ is;
    }
