-- The plan: each take is one more of the loop, or its last.
use Rattle.std.proofs.Common.{ap, refl, sym, subst, true≢false, ◌∙◌}
use Rattle.std.specs.Prelude.{IsSome}
use Rattle.std.proofs.Math.Dec.{ltb}
use Rattle.std.proofs.lemmas.Result.{IfOk-from_err}
use Rattle.wired_nodes.proofs.Attempts.{begun-early, begun-more, begun-none, begun-over, begun-still}
use Rattle.wired_nodes.proofs.node.Node.take_some.Goals as goal

pub loop-take-init : goal.loop-take-init
loop-take-init g c = record { begun = begun-none c.args.self.now; stopped = λ some. refl }

pub loop-take-preserved : goal.loop-take-preserved
loop-take-preserved g c =
    let inv = c.loop-take.invariant in
    record {
      begun = begun-more c.args.self.now c.loop-take.self c.take_one.new.self c.loop-take.take inv.begun c.in_ok-take_one.ensures.stepped
          c.if-not-branch.false;
      stopped = λ some.
          let same = (inv.begun.unmoved (inv.stopped some)).aside in
          absurd (true≢false (sym (subst (λ o. IsSome o) (sym same) some) ∙ sym c.is_some.ensures ∙ c.if-is_some.false));
    }

pub returns-in_err-take_one : goal.returns-in_err-take_one
returns-in_err-take_one g c = record {
  stepped = begun-early c.args.self.now c.loop-take.self c.take_one.new.self c.loop-take.take c.loop-take.invariant.begun
      c.in_err-take_one.ensures.stepped c.from_residual.ensures.1;
  stopped = IfOk-from_err c.from_residual.result _ c.from_residual.ensures.0;
  room = IfOk-from_err c.from_residual.result _ c.from_residual.ensures.0;
}

-- no wire came
pub returns-then-not-branch : goal.returns-then-not-branch
returns-then-not-branch g c =
    let old = c.args.self.now in
    let take = c.loop-take.take in
    record {
      stepped = begun-over old c.take_one.new.self take
          (begun-still old c.loop-take.self c.take_one.new.self take c.loop-take.invariant.begun c.in_ok-take_one.ensures.stepped c.if-not-branch.true);
      stopped = λ some. ap (ltb 0) (c.loop-take.invariant.stopped some);
      room = λ did none can. c.in_ok-take_one.ensures.room c.if-not-branch.true;
    }
