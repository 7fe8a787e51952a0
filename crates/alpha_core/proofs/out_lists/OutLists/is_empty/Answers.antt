use Rattle.std.proofs.Common.{ap, ◌∙◌}
use Rattle.std.specs.Prelude.{nat_eq}
use Rattle.alpha_core.specs.OutLists.{out_of}
use Rattle.alpha_core.specs.Rows.{all_within}
use Rattle.alpha_core.proofs.OutLists.{none-over}
use Rattle.alpha_core.proofs.out_lists.OutLists.is_empty.Goals as goal

pub returns : goal.returns
returns g c = record {
  empty = ap (λ n. nat_eq n 0) c.self.invariant.busy_is ∙ none-over 0 (out_of (λ x. x.wires.items) (λ x. x.payloads)) c.self.inside.lists.items
      ∙ ap (λ outs. all_within 0 outs) c.self.view_is;
}
