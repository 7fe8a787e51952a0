use Rattle.std.proofs.Common.{ap, ◌∙◌, nat_eq}
use Rattle.alpha_core.specs.Rows.{waiting_in}
use Rattle.alpha_core.proofs.marks.MarkList.none_waits.Goals as goal

pub returns : goal.returns
returns c = record {
  none = ap (λ n. nat_eq n 0) c.self.invariant.waits ∙ ap (λ v. nat_eq (waiting_in v.ports) 0) c.self.view_is;
}
