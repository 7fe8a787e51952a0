use Rattle.std.proofs.Common.{refl, arith}
use Rattle.alpha_core.specs.declared.marks.PortFlags.{PortFlags}
use Rattle.alpha_core.specs.declared.marks.Marks.{Marks}
use Rattle.alpha_core.proofs.OutWires.{bit-le}
use Rattle.alpha_core.proofs.Kept.{are-counted, inside, marks-set, step-of, waits-counted}
use Rattle.alpha_core.proofs.KeptFlags.{count-fits}
use Rattle.alpha_core.proofs.marks.MarkList.set_waits.Goals as goal

pub overflow_sub-self : goal.overflow_sub-self
overflow_sub-self c =
    let a = c.self.inside in
    omega (
      arith,
      c.self.invariant.waits,
      c.one_if.ensures.one,
      waits-counted a.pulse a.kept.items c.args.port c.index-kept.result.now c.index-kept.ensures
          (inside a.pulse a.kept.items c.args.self.now c.self.view_is c.args.port c.requires.port),
    )

pub invariant_of-self : goal.invariant_of-self
invariant_of-self c =
    let a = c.self.inside in
    let o = c.index-kept.result.now in
    let m : PortFlags = record { safes = o.safes; waits = c.args.waits; closed = o.closed } in
    are-counted a.pulse a.kept.items c.args.self.now c.self.view_is c.args.port o m c.index-kept.ensures c.requires.port c.self.invariant
    (step-of a.pulse a.kept.items c.args.self.now c.self.view_is c.args.port o c.index-kept.ensures c.requires.port c.self.invariant.in_step)
    (omega (
      arith,
      c.self.invariant.waits,
      c.one_if.ensures.one,
      c.one_if-2.ensures.one,
      waits-counted a.pulse a.kept.items c.args.port o c.index-kept.ensures
          (inside a.pulse a.kept.items c.args.self.now c.self.view_is c.args.port c.requires.port),
    ))
    refl refl refl

pub returns : goal.returns
returns c =
    let a = c.self.inside in
    let o = c.index-kept.result.now in
    let m : PortFlags = record { safes = o.safes; waits = c.args.waits; closed = o.closed } in
    record {
      set = marks-set a.pulse a.kept.items c.args.self.now c.self.view_is c.args.port o m c.index-kept.ensures c.requires.port
          (λ (x : Marks). record x { waits = c.args.waits }) refl;
    }

pub index-kept-requires : goal.index-kept-requires
index-kept-requires c =
    let a = c.self.inside in
    omega (arith, inside a.pulse a.kept.items c.args.self.now c.self.view_is c.args.port c.requires.port, a.kept.ok.0)

pub overflow_add-self : goal.overflow_add-self
overflow_add-self c =
    let a = c.self.inside in
    omega (
      arith,
      c.self.invariant.waits,
      count-fits a.pulse a.kept.items (λ m. m.waits),
      bit-le c.one_if-2.result c.args.waits c.one_if-2.ensures.one,
      a.kept.ok.0,
    )

pub index_mut-requires : goal.index_mut-requires
index_mut-requires c =
    let a = c.self.inside in
    omega (arith, inside a.pulse a.kept.items c.args.self.now c.self.view_is c.args.port c.requires.port, a.kept.ok.0)
