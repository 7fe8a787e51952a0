use Rattle.std.proofs.Common.{◌||◌, ◌∙◌, ap, arith, subst, sym}
use Rattle.interference.specs.Net.{degree_of}
use Rattle.lone_runs.specs.Went.{Went}
use Rattle.lone_runs.proofs.Events.{both_false, then_went}
use Rattle.lone_runs.proofs.Ticks.{own_all, own_first, own_more, turn_over}
use Rattle.lone_runs.proofs.recording.record_turn.Goals as goal

pub loop-port-init : goal.loop-port-init
loop-port-init g c =
    let program = g.P.NodeProgram.program in
    let at = c.record.new.recording.state in
    record {
      went = c.in_ok-did.ensures.went;
      recorded = c.in_ok-did.ensures.recorded;
      degree = c.degree-degree.ensures.value ∙ ap (λ n. degree_of n c.args.v) c.network.ensures.network;
      turn = c.in_ok-did.ensures.turn;
      above = own_first program at.net at.state c.record.new.recording.rows.items c.args.stamp c.args.v c.in_ok-did.ensures.passed.here;
      none = c.in_ok-did.ensures.none;
    }

pub loop-port-preserved : goal.loop-port-preserved
loop-port-preserved g c =
    let program = g.P.NodeProgram.program in
    let is = c.loop-port.invariant in
    let all = c.either-did.ensures.either ∙ ap (λ b. c.loop-port.did || b) c.either.ensures.either in
    record {
      went = subst (λ b. Went program c.args.recording.now.state b c.record-in-loop-port-2.new.recording.state) (sym all)
          (then_went program _ _ is.went (then_went program _ _ c.in_ok-took.ensures.went c.in_ok-put.ensures.went));
      recorded = c.in_ok-put.ensures.recorded;
      degree = is.degree ∙ ap (λ n. degree_of n c.args.v) (sym (c.in_ok-put.ensures.went.net ∙ c.in_ok-took.ensures.went.net));
      turn = c.in_ok-put.ensures.turn;
      above = own_more program _ _ _ _ _ _ c.args.stamp c.args.v c.loop-port.port is.above c.in_ok-took.ensures.passed c.in_ok-put.ensures.passed;
      none = λ e.
          let first = both_false program c.loop-port.did _ (sym all ∙ e) in
          let rest = both_false program _ _ first.1 in
          c.in_ok-put.ensures.none rest.1 ∙ c.in_ok-took.ensures.none rest.0 ∙ is.none first.0;
    }

pub returns-clause-over : goal.returns-clause-over
returns-clause-over g c =
    let program = g.P.NodeProgram.program in
    let at = c.loop-port.recording.state in
    let rows = c.loop-port.recording.rows.items in
    let is = c.loop-port.invariant in
    turn_over program at.net at.state rows c.args.stamp c.args.v is.turn
    (own_all program at.net at.state rows c.args.stamp c.args.v c.loop-port.port (omega (arith, is.degree, c.loop-port-test.false)) is.above)
