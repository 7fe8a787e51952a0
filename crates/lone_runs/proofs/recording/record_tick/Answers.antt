use Rattle.std.proofs.Common.{◌∙◌, ap, arith, refl, subst, sym}
use Rattle.interference.specs.Net.{IsNetwork, count_of}
use Rattle.lone_runs.specs.Ticks.{IsBeforeTick}
use Rattle.lone_runs.specs.Went.{Went}
use Rattle.lone_runs.proofs.Events.{at_most, both_false, still, then_went}
use Rattle.lone_runs.proofs.Ticks.{tick_next, tick_none, tick_turn}
use Rattle.lone_runs.proofs.recording.record_tick.Goals as goal

pub loop-i-init : goal.loop-i-init
loop-i-init g c =
    let program = g.P.NodeProgram.program in
    let old = c.args.recording.now in
    record {
      went = still program old.state;
      recorded = c.requires.recorded;
      count = c.nodes-count.ensures.count ∙ ap count_of c.network.ensures.network;
      turn = tick_turn program old.state.net old.state.state old.rows.items c.args.stamp c.requires.tick;
      none = λ e. refl;
    }

pub loop-i-preserved : goal.loop-i-preserved
loop-i-preserved g c =
    let program = g.P.NodeProgram.program in
    let is = c.loop-i.invariant in
    let all = c.either-did.ensures.either in
    record {
      went = subst (λ b. Went program c.args.recording.now.state b c.record_turn.new.recording.state) (sym all)
          (then_went program _ _ is.went c.in_ok-went.ensures.went);
      recorded = c.in_ok-went.ensures.recorded;
      count = is.count ∙ ap (λ n. count_of n) (sym c.in_ok-went.ensures.went.net);
      turn = c.in_ok-went.ensures.over;
      none = λ e.
          let parts = both_false program c.loop-i.did _ (sym all ∙ e) in
          c.in_ok-went.ensures.none parts.1 ∙ is.none parts.0;
    }

pub returns-clause-bounded : goal.returns-clause-bounded
returns-clause-bounded g c =
    let ok = subst IsNetwork c.network-2.ensures.network c.nodes.ensures.network in
    at_most g.P.NodeProgram.program c.loop-i.recording.state.net g.P.NodeProgram.laws ok c.loop-i.recording.state.state c.is_simulation.ensures.reached

pub returns-clause-next : goal.returns-clause-next
returns-clause-next g c =
    let at = c.loop-i.recording.state in
    let is = c.loop-i.invariant in
    tick_next g.P.NodeProgram.program at.net at.state c.loop-i.recording.rows.items c.args.stamp c.loop-i.i
    (omega (arith, is.count, c.loop-i-test.false)) is.turn

-- nothing was made: rows and state are those before the tick
pub returns-clause-over : goal.returns-clause-over
returns-clause-over g c = λ e.
    let program = g.P.NodeProgram.program in
    let at = c.loop-i.recording.state in
    let rows = c.loop-i.recording.rows.items in
    let is = c.loop-i.invariant in
    let tick : IsBeforeTick program at.net at.state rows c.args.stamp =
    subst (λ l. IsBeforeTick program at.net at.state l c.args.stamp) (sym (is.none e))
    (subst (λ s. IsBeforeTick program s.net s.state c.args.recording.now.rows.items c.args.stamp) (sym (is.went.none e)) c.requires.tick) in
    tick_none program at.net at.state rows c.args.stamp c.loop-i.i (omega (arith, is.count, c.loop-i-test.false)) tick is.turn
