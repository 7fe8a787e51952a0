use Rattle.std.proofs.Common.{arith}
use Rattle.alpha_core.proofs.Kept.{inside, step-of}
use Rattle.alpha_core.proofs.KeptFlags.{flags-seen}
use Rattle.alpha_core.proofs.marks.MarkList.get.Goals as goal

pub index-kept-requires : goal.index-kept-requires
index-kept-requires c =
    let a = c.self.inside in
    omega (arith, inside a.pulse a.kept.items c.args.self.now c.self.view_is c.args.port c.requires.port, a.kept.ok.0)

pub overflow_sub-safes : goal.overflow_sub-safes
overflow_sub-safes c =
    let a = c.self.inside in
    (step-of a.pulse a.kept.items c.args.self.now c.self.view_is c.args.port c.index-kept.result.now c.index-kept.ensures c.requires.port
    c.self.invariant.in_step).0

pub returns : goal.returns
returns c =
    let a = c.self.inside in
    record {
      marks = flags-seen a.pulse a.kept.items c.args.self.now c.self.view_is c.args.port c.index-kept.result.now c.index-kept.ensures c.requires.port
          c.self.invariant.in_step;
    }
