-- The plan: each attempt is one more of the loop, or its last.
use Rattle.std.proofs.Common.{true≢false, arith}
use Rattle.std.proofs.lemmas.Result.{IfOk-from_err}
use Rattle.wired_nodes.proofs.Attempts.{begun-did, begun-early, begun-more, begun-none, begun-over, begun-still}
use Rattle.wired_nodes.proofs.node.Node.put_some.Goals as goal

pub loop-put-init : goal.loop-put-init
loop-put-init g c = record { begun = begun-none c.args.self.now; going = c.requires.going }

pub loop-put-preserved : goal.loop-put-preserved
loop-put-preserved g c = record {
  begun = begun-more c.args.self.now c.loop-put.self c.put_one.new.self c.loop-put.put c.loop-put.invariant.begun c.in_ok-put_one.ensures.stepped
      c.if-not-branch.false;
  going = c.in_ok-put_one.ensures.going;
}

pub returns-in_err-put_one : goal.returns-in_err-put_one
returns-in_err-put_one g c = record {
  stepped = begun-early c.args.self.now c.loop-put.self c.put_one.new.self c.loop-put.put c.loop-put.invariant.begun c.in_err-put_one.ensures.stepped
      c.from_residual.ensures.1;
  room = IfOk-from_err c.from_residual.result _ c.from_residual.ensures.0;
  going = c.in_err-put_one.ensures.going;
}

-- an attempt failed, or nothing was left
pub returns-then-not-branch : goal.returns-then-not-branch
returns-then-not-branch g c =
    let old = c.args.self.now in
    let put = c.loop-put.put in
    record {
      stepped = begun-over old c.put_one.new.self put
          (begun-still old c.loop-put.self c.put_one.new.self put c.loop-put.invariant.begun c.in_ok-put_one.ensures.stepped c.if-not-branch.true);
      room = λ did. c.in_ok-put_one.ensures.room c.if-not-branch.true;
      going = c.in_ok-put_one.ensures.going;
    }

pub returns : goal.returns
returns g c = record {
  stepped = begun-did c.args.self.now c.loop-put.self c.loop-put.put (omega arith) c.loop-put.invariant.begun;
  room = λ did. absurd (true≢false did);
  going = c.loop-put.invariant.going;
}
