use Rattle.std.proofs.Common.{◌≡◌, length, ap, ◌∙◌, nat_eq, arith}
use Rattle.std.proofs.lemmas.List.{length-map}
use Rattle.alpha_core.specs.Rows.{marks_in, marks_with, closed_in}
use Rattle.alpha_core.proofs.marks.MarkList.all_closed.Goals as goal

pub returns : goal.returns
returns c =
    let a = c.self.inside in
    let size : c.len.result ≡ length (marks_in a.pulse a.kept.items) =
    omega (arith, c.len.ensures, a.kept.ok.0, length-map a.kept.items (marks_with a.pulse)) in
    record {
      all = ap (λ n. nat_eq n c.len.result) c.self.invariant.closes ∙ ap (λ n. nat_eq (closed_in (marks_in a.pulse a.kept.items)) n) size
          ∙ ap (λ v. nat_eq (closed_in v.ports) (length v.ports)) c.self.view_is;
    }
