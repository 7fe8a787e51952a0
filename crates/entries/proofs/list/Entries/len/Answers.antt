use Rattle.std.proofs.Common.{ap, ◌∙◌}
use Rattle.entries.proofs.More.{items-long}
use Rattle.entries.proofs.list.Entries.len.Goals as goal

pub returns : goal.returns
returns g c =
    let e = c.self.inside in
    record {
      len = c.len.ensures.len
          ∙ items-long e.stamps.items e.bares.items e.payloads.items _ c.self.invariant.0 c.self.invariant.1 (ap (λ v. v.items) c.self.view_is);
    }
