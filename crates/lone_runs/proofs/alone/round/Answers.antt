use Rattle.std.proofs.Common.{ap, sym, subst, ◌∙◌, arith}
use Rattle.interference.specs.Net.{IsNetwork, count_of}
use Rattle.lone_runs.specs.Went.{Went}
use Rattle.lone_runs.proofs.Events.{at_end, at_most, round_more, stuck_end, then_went}
use Rattle.lone_runs.proofs.alone.round.Goals as goal

pub loop-i-preserved : goal.loop-i-preserved
loop-i-preserved g c =
    let program = g.P.NodeProgram.program in
    let is = c.loop-i.invariant in
    let all = c.either-did.ensures.either in
    record {
      went = subst (λ b. Went program c.args.state.now b c.turn.new.state) (sym all) (then_went program _ _ is.went c.in_ok-went.ensures.went);
      count = is.count ∙ ap (λ n. count_of n) (sym c.in_ok-went.ensures.went.net);
      stuck = λ e. round_more program c.loop-i.i c.in_ok-went.ensures.went is.stuck c.in_ok-went.ensures.stuck (sym all ∙ e);
    }

pub returns-clause-bounded : goal.returns-clause-bounded
returns-clause-bounded g c =
    let ok = subst IsNetwork c.network-2.ensures.network c.nodes.ensures.network in
    at_most g.P.NodeProgram.program c.loop-i.state.net g.P.NodeProgram.laws ok c.loop-i.state.state c.is_simulation.ensures.reached

pub returns-clause-ended : goal.returns-clause-ended
returns-clause-ended g c = λ e.
    let ok = subst IsNetwork c.network-2.ensures.network c.nodes.ensures.network in
    let is = c.loop-i.invariant in
    at_end g.P.NodeProgram.program c.loop-i.state.net g.P.NodeProgram.laws ok c.loop-i.state.state c.is_simulation.ensures.reached
    (stuck_end g.P.NodeProgram.program c.loop-i.state c.loop-i.i (omega (arith, is.count, c.loop-i-test.false)) (is.stuck e))
