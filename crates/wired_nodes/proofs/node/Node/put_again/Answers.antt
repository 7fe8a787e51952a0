-- The plan: nothing was put so far, so the node is as it was; a port that is blocked now was so before.
use Rattle.std.proofs.Common.{refl, true≢false, ◌∙◌, arith}
use Rattle.std.proofs.lemmas.Result.{IfOk-from_err}
use Rattle.wired_nodes.proofs.Attempts.{begun-did, begun-early, begun-more, begun-none, begun-not, begun-still}
use Rattle.wired_nodes.proofs.Unmoved.{blocked-before}
use Rattle.wired_nodes.proofs.node.Node.put_again.Goals as goal

pub loop-init : goal.loop-init
loop-init g c = record { begun = begun-none c.args.self.now; going = c.requires.going }

pub loop-preserved : goal.loop-preserved
loop-preserved g c =
    let old = c.args.self.now in
    let some = begun-still old c.loop.self c.put_some.new.self 0 c.loop.invariant.begun c.in_ok-put.ensures.stepped c.if-put.false in
    record {
      begun = begun-still old c.put_some.new.self c.is_blocked.new.self 0 some c.is_blocked.ensures.stepped refl;
      going = c.is_blocked.ensures.going;
    }

pub returns-in_err-put : goal.returns-in_err-put
returns-in_err-put g c = record {
  stepped = begun-early c.args.self.now c.loop.self c.put_some.new.self 0 c.loop.invariant.begun c.in_err-put.ensures.stepped c.from_residual.ensures.1;
  blocked = IfOk-from_err c.from_residual.result _ c.from_residual.ensures.0;
  going = c.in_err-put.ensures.going;
}

-- a wire was put
pub returns-then-put : goal.returns-then-put
returns-then-put g c =
    let old = c.args.self.now in
    record {
      stepped = begun-did old c.put_some.new.self 1 (omega arith)
          (begun-more old c.loop.self c.put_some.new.self 0 c.loop.invariant.begun c.in_ok-put.ensures.stepped c.if-put.true);
      blocked = λ did. absurd (true≢false did);
      going = c.in_ok-put.ensures.going;
    }

-- a port that is blocked now was so before, since nothing was put
pub returns-then-is_blocked : goal.returns-then-is_blocked
returns-then-is_blocked g c =
    let old = c.args.self.now in
    let begun = c.loop.invariant.begun in
    let stepped = c.in_ok-put.ensures.stepped in
    let some = begun-still old c.loop.self c.put_some.new.self 0 begun stepped c.if-put.false in
    record {
      stepped = begun-not old c.is_blocked.new.self
          (begun-still old c.put_some.new.self c.is_blocked.new.self 0 some c.is_blocked.ensures.stepped refl);
      blocked = λ did. blocked-before old c.put_some.new.self c.args.port (stepped.vertex ∙ begun.vertex) (some.unmoved refl)
          (c.is_blocked.ensures.blocked c.if-is_blocked.true);
      going = c.is_blocked.ensures.going;
    }
