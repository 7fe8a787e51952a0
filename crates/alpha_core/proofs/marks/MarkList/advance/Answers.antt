use Rattle.std.proofs.Common.{◌+◌, ap, ◌∙◌, map}
use Rattle.alpha_core.specs.Rows.{advanced, all_have_safe}
use Rattle.alpha_core.proofs.Kept.{advance-all, are-advanced}
use Rattle.alpha_core.proofs.marks.MarkList.advance.Goals as goal

pub invariant_of-self : goal.invariant_of-self
invariant_of-self c =
    let a = c.self.inside in
    are-advanced a.pulse a.kept.items c.self.invariant (ap (λ v. all_have_safe v.ports) c.self.view_is ∙ c.requires.safe)

pub returns : goal.returns
returns c =
    let a = c.self.inside in
    record {
      advanced = ap (λ l. record { pulse = a.pulse + 1; ports = l }) (advance-all a.pulse a.kept.items c.self.invariant.in_step)
          ∙ ap (λ v. record { pulse = v.pulse + 1; ports = map (λ m. advanced m) v.ports }) c.self.view_is;
    }
