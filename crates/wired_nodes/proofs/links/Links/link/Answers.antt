use Rattle.std.proofs.Common.{sym, subst, ap, ◌∙◌, arith}
use Rattle.std.specs.Prelude.{IsSome, slice_get}
use Rattle.wired_nodes.specs.Tables.{table_of}
use Rattle.wired_nodes.proofs.Rows.{in_row}
use Rattle.wired_nodes.proofs.links.Links.link.Goals as goal

-- the queues that the run picked are those of the links, among which the index is
pub index-requires : goal.index-requires
index-requires g c =
    let here = subst (λ links. IsSome (slice_get links c.args.index)) (sym c.args.self.now.are) c.requires.link in
    let at = in_row table_of c.args.self.now.list.items c.args.index here in
    omega (arith, at.0, c.args.self.now.list.ok.0)

pub returns : goal.returns
returns g c =
    let here = subst (λ links. IsSome (slice_get links c.args.index)) (sym c.args.self.now.are) c.requires.link in
    let at = in_row table_of c.args.self.now.list.items c.args.index here in
    record {
      link = ap (λ links. slice_get links c.args.index) (sym c.args.self.now.are) ∙ at.1.0 _ c.index.ensures;
      listed = at.1.1 _ c.index.ensures;
    }
