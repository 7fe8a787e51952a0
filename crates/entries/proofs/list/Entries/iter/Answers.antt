use Rattle.std.proofs.Common.{ap, ap₂, ◌∙◌}
use Rattle.entries.specs.Bare.{entries_of}
use Rattle.entries.proofs.More.{items-bare}
use Rattle.entries.proofs.list.Entries.iter.Goals as goal

pub returns : goal.returns
returns g c =
    let e = c.self.inside in
    record {
      items = ap₂ entries_of c.iter.ensures.items c.as_slice.ensures.value
          ∙ items-bare e.stamps.items e.bares.items e.payloads.items _ c.self.invariant.0 c.self.invariant.1 (ap (λ v. v.items) c.self.view_is);
    }
