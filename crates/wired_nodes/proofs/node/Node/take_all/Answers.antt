-- The plan: each port is one more part of the takes.
use Rattle.std.proofs.Common.{Ok, refl, sym, subst, arith, true≢false, ◌∙◌}
use Rattle.std.specs.Prelude.{IsSome}
use Rattle.std.proofs.lemmas.Result.{IfOk-from_err}
use Rattle.wired_nodes.specs.Stepped.{Stepped}
use Rattle.wired_nodes.proofs.Attempts.{begun-none, begun-not, stepped-more, stepped-on, stepped-still}
use Rattle.wired_nodes.proofs.node.Node.take_all.Goals.{then-branch, else-branch}
use Rattle.wired_nodes.proofs.node.Node.take_all.Goals as goal

pub loop-port-init : goal.loop-port-init
loop-port-init g c =
    let old = c.args.self.now in
    record {
      stepped = begun-not old old (begun-none old);
      stopped = λ some. refl;
      room = λ did none port. absurd (omega (arith, port));
    }

pub loop-port-preserved : goal.loop-port-preserved
loop-port-preserved g c =
    let old = c.args.self.now in
    let new = c.take_some.new.self in
    let inv = c.loop-port.invariant in
    let some = c.in_ok-take_some.ensures in
    record {
      stepped = elim c.if-branch.branch [
        | then-branch w ↦
            subst (λ b. Stepped old new (Ok b)) (sym w.took-is) (stepped-more old c.loop-port.self new inv.stepped some.stepped w.if-branch.true)
        | else-branch w ↦
            subst (λ b. Stepped old new (Ok b)) (sym w.took-is) (stepped-still old c.loop-port.self new inv.stepped some.stepped w.if-branch.false)
      ];
      stopped = λ aside. elim c.if-branch.branch [
        | then-branch w ↦
            let same = (inv.stepped.unmoved (inv.stopped aside)).aside in
            absurd (true≢false (sym w.if-branch.true ∙ some.stopped (subst (λ o. IsSome o) (sym same) aside)))
        | else-branch w ↦ w.took-is ∙ inv.stopped aside
      ];
      room = λ none going port. elim c.if-branch.branch [
        | then-branch w ↦ absurd (true≢false (sym w.took-is ∙ none))
        | else-branch w ↦ some.room w.if-branch.false going
      ];
    }

pub returns-in_err-take_some : goal.returns-in_err-take_some
returns-in_err-take_some g c = record {
  stepped = stepped-on c.args.self.now c.loop-port.self c.take_some.new.self c.loop-port.invariant.stepped c.in_err-take_some.ensures.stepped
      c.from_residual.ensures.1;
  stopped = IfOk-from_err c.from_residual.result _ c.from_residual.ensures.0;
  room = IfOk-from_err c.from_residual.result _ c.from_residual.ensures.0;
}

pub returns : goal.returns
returns g c =
    let inv = c.loop-port.invariant in
    record {
      stepped = inv.stepped;
      stopped = inv.stopped;
      room = λ none going some. inv.room none going (omega (arith, some, inv.stepped.degree));
    }
