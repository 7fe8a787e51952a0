use Rattle.std.proofs.Common.{◌∙◌, ap, arith, subst, sym}
use Rattle.std.proofs.lemmas.Result.{err_from_is_err_and}
use Rattle.event_rule.specs.State.{start}
use Rattle.event_rule.specs.Whole.{IsStampedReplay, IsWhole}
use Rattle.net_core.specs.Whole.{WhyNotWhole}
use Rattle.event_rule.proofs.Counted.{counters-within}
use Rattle.net_core.proofs.whole.replay_whole.Goals as goal

pub replay_rows-requires-clause-start : goal.replay_rows-requires-clause-start
replay_rows-requires-clause-start g c κs within =
    let started = c.in_ok-state.ensures.start in
    ap (λ s. s.state) started ∙ sym (ap (λ s. start g.P.NodeProgram.program s.net) started)

pub returns-in_err-table-clause-refuses : goal.returns-in_err-table-clause-refuses
returns-in_err-table-clause-refuses g c =
    let program = g.P.NodeProgram.program in
    let net = ap (λ s. s.net) c.in_ok-state.ensures.start in
    let p = err_from_is_err_and c.from_residual-in_err-table.result c.from_residual-in_err-table.ensures.1 in
    rw (p.1, p.2) (λ never. subst (λ n. WhyNotWhole program n c.args.rows.now c.in_err-table.field-0.0) net
    (c.in_err-table.ensures.refuses never))

pub returns-then-not-is_whole-clause-refuses : goal.returns-then-not-is_whole-clause-refuses
returns-then-not-is_whole-clause-refuses g c =
    let program = g.P.NodeProgram.program in
    let last = c.replay_rows.new.state.state in
    let net = ap (λ s. s.net) c.in_ok-state.ensures.start in
    let played = c.in_ok-table.ensures in
    λ never. record {
      last = last;
      is_replay = subst (λ n. IsStampedReplay program n c.args.rows.now last) net played.replay;
      unfinished = λ whole. c.if-not-is_whole.ensures.whole (subst (λ n. IsWhole program n last) (sym (played.net ∙ net)) whole);
    }

pub returns-clause-net : goal.returns-clause-net
returns-clause-net g c = c.in_ok-table.ensures.net ∙ ap (λ s. s.net) c.in_ok-state.ensures.start

pub returns-clause-accepts : goal.returns-clause-accepts
returns-clause-accepts g c =
    let program = g.P.NodeProgram.program in
    let last = c.replay_rows.new.state.state in
    let net = ap (λ s. s.net) c.in_ok-state.ensures.start in
    let played = c.in_ok-table.ensures in
    record {
      replay = subst (λ n. IsStampedReplay program n c.args.rows.now last) net played.replay;
      whole = subst (λ n. IsWhole program n last) (played.net ∙ net) c.if-not-is_whole.ensures.whole;
    }

pub returns-clause-stamps : goal.returns-clause-stamps
returns-clause-stamps g c = λ v. c.in_ok-table.ensures.table.counters v

pub returns-clause-counted : goal.returns-clause-counted
returns-clause-counted g c = λ v.
    let is = c.in_ok-table.ensures.table.counters v in
    let le = counters-within c.args.rows.now c.in_ok-table.ensures.replay.stamped v in
    omega (arith, is, le)
