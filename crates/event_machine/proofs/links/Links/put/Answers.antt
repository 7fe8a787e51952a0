use Rattle.std.proofs.Common.{[], ◌∷◌, ◌++◌, map, refl, sym, ap, ◌∙◌, subst}
use Rattle.std.specs.Vec.{with_item}
use Rattle.event_rule.specs.State.{Link, HasLink, link_at, set_link}
use Rattle.event_rule.proofs.Parts.{on_err}
use Rattle.event_rule.proofs.LinkTable.{link_found, link_written, link_kept}
use Rattle.event_machine.proofs.links.Links.put.Goals as goal

pub returns-in_err-put-clause-refused : goal.returns-in_err-put-clause-refused
returns-in_err-put-clause-refused g c =
    let rows = c.self.inside.rows.items in
    let old = map (λ row. row.items) rows in
    let has : HasLink old c.args.v c.args.port = subst (λ s. HasLink s c.args.v c.args.port) (sym c.self.view_is) c.requires.link in
    let row = c.index_mut.result.now in
    let link = c.index_mut-2.result.now in
    on_err c.from_residual.result
    (link_written (λ row. row.items) rows c.args.v c.args.port row link has c.index_mut.ensures.value c.index_mut-2.ensures.value
    (with_item row c.args.port c.put.new.self) c.put.new.self refl
    ∙ ap (λ l. set_link old c.args.v c.args.port l)
    (c.in_err-put.ensures.refused ∙ link_found (λ row. row.items) rows c.args.v c.args.port row link has c.index_mut.ensures.value
    c.index_mut-2.ensures.value)
    ∙ link_kept old c.args.v c.args.port has ∙ c.self.view_is)

pub returns-clause-put : goal.returns-clause-put
returns-clause-put g c =
    let rows = c.self.inside.rows.items in
    let old = map (λ row. row.items) rows in
    let has : HasLink old c.args.v c.args.port = subst (λ s. HasLink s c.args.v c.args.port) (sym c.self.view_is) c.requires.link in
    let row = c.index_mut.result.now in
    let link = c.index_mut-2.result.now in
    link_written (λ row. row.items) rows c.args.v c.args.port row link has c.index_mut.ensures.value c.index_mut-2.ensures.value
    (with_item row c.args.port c.put.new.self) c.put.new.self refl
    ∙ ap (λ l. set_link old c.args.v c.args.port l)
    (c.in_ok-put.ensures.put
    ∙ ap (λ (l : Link _). record { taken = l.taken; held = l.held ++ (c.args.wire ∷ []) })
    (link_found (λ row. row.items) rows c.args.v c.args.port row link has c.index_mut.ensures.value c.index_mut-2.ensures.value))
    ∙ ap (λ s. set_link s c.args.v c.args.port record {
      taken = (link_at s c.args.v c.args.port).taken;
      held =
          (link_at s c.args.v c.args.port).held ++ (c.args.wire ∷ []);
    })
    c.self.view_is
