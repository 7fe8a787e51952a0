use Rattle.std.proofs.Common.{◌||◌, ap, sym, subst, ◌∙◌}
use Rattle.interference.specs.Net.{degree_of}
use Rattle.lone_runs.specs.Went.{Went}
use Rattle.lone_runs.proofs.Events.{then_went, turn_more}
use Rattle.lone_runs.proofs.alone.turn.Goals as goal

pub loop-port-preserved : goal.loop-port-preserved
loop-port-preserved g c =
    let program = g.P.NodeProgram.program in
    let is = c.loop-port.invariant in
    let all = c.either-did.ensures.either ∙ ap (λ b. c.loop-port.did || b) c.either.ensures.either in
    record {
      went = subst (λ b. Went program c.args.state.now b c.attempt-in-loop-port-2.new.state) (sym all)
          (then_went program _ _ is.went (then_went program _ _ c.in_ok-took.ensures.went c.in_ok-put.ensures.went));
      degree = is.degree ∙ ap (λ n. degree_of n c.args.v) (sym (c.in_ok-put.ensures.went.net ∙ c.in_ok-took.ensures.went.net));
      stuck = λ e. turn_more program c.args.v c.loop-port.port c.in_ok-took.ensures.went c.in_ok-put.ensures.went is.stuck c.in_ok-took.ensures.stuck
          c.in_ok-put.ensures.stuck (sym all ∙ e);
    }
