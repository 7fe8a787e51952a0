use Rattle.std.proofs.Common.{map, refl, sym, ap, ◌∙◌, subst}
use Rattle.std.specs.Vec.{with_item}
use Rattle.event_rule.specs.State.{HasLink, link_at, set_link, take_one}
use Rattle.event_rule.proofs.LinkTable.{link_found, link_written}
use Rattle.event_machine.proofs.links.Links.take.Goals as goal

pub returns : goal.returns
returns g c =
    let rows = c.self.inside.rows.items in
    let old = map (λ row. row.items) rows in
    let has : HasLink old c.args.v c.args.port = subst (λ s. HasLink s c.args.v c.args.port) (sym c.self.view_is) c.requires.link in
    let row = c.index_mut.result.now in
    let link = c.index_mut-2.result.now in
    record {
      taken =
          link_written (λ row. row.items) rows c.args.v c.args.port row link has c.index_mut.ensures.value c.index_mut-2.ensures.value
          (with_item row c.args.port c.take.new.self) c.take.new.self refl
          ∙ ap (λ l. set_link old c.args.v c.args.port l)
          (c.take.ensures.taken ∙ ap take_one (link_found (λ row. row.items) rows c.args.v c.args.port row link has c.index_mut.ensures.value
          c.index_mut-2.ensures.value))
          ∙ ap (λ s. set_link s c.args.v c.args.port (take_one (link_at s c.args.v c.args.port))) c.self.view_is;
    }
