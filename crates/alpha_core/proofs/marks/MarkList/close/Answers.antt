use Rattle.std.proofs.Common.{refl, arith, true, not}
use Rattle.alpha_core.specs.declared.marks.PortFlags.{PortFlags}
use Rattle.alpha_core.specs.declared.marks.Marks.{Marks}
use Rattle.alpha_core.proofs.OutWires.{bit-le}
use Rattle.alpha_core.proofs.Kept.{are-counted, inside, marks-set, not_bit, step-of}
use Rattle.alpha_core.proofs.KeptFlags.{count-fits}
use Rattle.alpha_core.proofs.marks.MarkList.close.Goals as goal

pub invariant_of-self : goal.invariant_of-self
invariant_of-self c =
    let a = c.self.inside in
    let o = c.index-kept.result.now in
    let m : PortFlags = record { safes = o.safes; waits = o.waits; closed = true } in
    are-counted a.pulse a.kept.items c.args.self.now c.self.view_is c.args.port o m c.index-kept.ensures c.requires.port c.self.invariant
    (step-of a.pulse a.kept.items c.args.self.now c.self.view_is c.args.port o c.index-kept.ensures c.requires.port c.self.invariant.in_step)
    refl refl refl (omega (arith, c.one_if.ensures.one, not_bit o.closed))

pub returns : goal.returns
returns c =
    let a = c.self.inside in
    let o = c.index-kept.result.now in
    let m : PortFlags = record { safes = o.safes; waits = o.waits; closed = true } in
    record {
      set = marks-set a.pulse a.kept.items c.args.self.now c.self.view_is c.args.port o m c.index-kept.ensures c.requires.port
          (λ (x : Marks). record x { closed = true }) refl;
    }

pub index-kept-requires : goal.index-kept-requires
index-kept-requires c =
    let a = c.self.inside in
    omega (arith, inside a.pulse a.kept.items c.args.self.now c.self.view_is c.args.port c.requires.port, a.kept.ok.0)

pub overflow_add-self : goal.overflow_add-self
overflow_add-self c =
    let a = c.self.inside in
    omega (
      arith,
      c.self.invariant.closes,
      count-fits a.pulse a.kept.items (λ m. m.closed),
      bit-le c.one_if.result (not c.index-kept.result.now.closed) c.one_if.ensures.one,
      a.kept.ok.0,
    )

pub index_mut-requires : goal.index_mut-requires
index_mut-requires c =
    let a = c.self.inside in
    omega (arith, inside a.pulse a.kept.items c.args.self.now c.self.view_is c.args.port c.requires.port, a.kept.ok.0)
