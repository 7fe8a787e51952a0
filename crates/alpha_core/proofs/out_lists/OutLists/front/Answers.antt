use Rattle.std.proofs.Common.{ap, ◌∙◌, arith}
use Rattle.std.specs.Prelude.{slice_get}
use Rattle.alpha_core.proofs.SeenOuts.{list-below, whole-seen, wires-seen}
use Rattle.alpha_core.proofs.out_lists.OutLists.front.Goals as goal

pub index-list-requires : goal.index-list-requires
index-list-requires g c =
    let a = c.self.inside in
    omega (arith, list-below (λ x. x.wires.items) (λ x. x.payloads) a.lists.items c.self.invariant c.self.view_is c.requires.port)

pub first_wire-requires : goal.first_wire-requires
first_wire-requires g c =
    let a = c.self.inside in
    record {
      payloads = whole-seen (λ x. x.wires.items) (λ x. x.payloads) a.lists.items c.self.invariant c.self.view_is c.requires.port
          c.index-list.ensures;
    }

pub returns : goal.returns
returns g c =
    let a = c.self.inside in
    record {
      oldest = c.first_wire.ensures.first
          ∙ ap (λ l. slice_get l 0) (wires-seen (λ x. x.wires.items) (λ x. x.payloads) a.lists.items c.self.invariant c.self.view_is c.requires.port
          c.index-list.ensures);
    }
