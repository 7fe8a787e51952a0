use Rattle.std.proofs.Common.{◌≡◌, ◌+◌, ◌∙◌, [], arith, refl, subst, sym, take}
use Rattle.std.proofs.lemmas.List.{take_all}
use Rattle.std.proofs.lemmas.Result.{err_from_is_err_and}
use Rattle.event_rule.specs.Whole.{IsStampedReplay}
use Rattle.net_core.specs.Whole.{WhyNotWhole}
use Rattle.stamps.specs.Table.{IsTableOf}
use Rattle.stamps.proofs.Tables.{empty_table}
use Rattle.event_machine.proofs.Stamped.{stamped-start}
use Rattle.net_core.proofs.whole.replay_rows.Goals as goal

pub loop-index-init : goal.loop-index-init
loop-index-init g c =
    let program = g.P.NodeProgram.program in
    let old = c.args.state.now in
    record {
      net = refl;
      replay = subst (λ s. IsStampedReplay program old.net [] s) (sym c.requires.start) (stamped-start program old.net);
      table = empty_table c.new-table.result c.new-table.ensures.none;
    }

pub replay_row-requires-clause-replay : goal.replay_row-requires-clause-replay
replay_row-requires-clause-replay g c κs within =
    let program = g.P.NodeProgram.program in
    let inv = c.loop-index.invariant in
    subst (λ n. IsStampedReplay program n (take c.loop-index.index c.args.rows.now) c.loop-index.state.state) (sym inv.net) inv.replay

pub replay_row-requires-clause-table : goal.replay_row-requires-clause-table
replay_row-requires-clause-table g c κs within = c.loop-index.invariant.table

pub returns-in_err-replay_row-clause-refuses : goal.returns-in_err-replay_row-clause-refuses
returns-in_err-replay_row-clause-refuses g c =
    let program = g.P.NodeProgram.program in
    let p = err_from_is_err_and c.from_residual.result c.from_residual.ensures.1 in
    rw (p.1, p.2) (λ never. subst (λ n. WhyNotWhole program n c.args.rows.now c.in_err-replay_row.field-0.0) c.loop-index.invariant.net
    (c.in_err-replay_row.ensures.refuses never))

pub loop-index-preserved : goal.loop-index-preserved
loop-index-preserved g c =
    let program = g.P.NodeProgram.program in
    let inv = c.loop-index.invariant in
    let made = c.in_ok-replay_row.ensures in
    record {
      net = made.net ∙ inv.net;
      replay = subst (λ n. IsStampedReplay program n (take (c.loop-index.index + 1) c.args.rows.now) c.replay_row.new.state.state) inv.net made.replay;
      table = made.table;
    }

pub returns-clause-net : goal.returns-clause-net
returns-clause-net g c = c.loop-index.invariant.net

pub returns-clause-replay : goal.returns-clause-replay
returns-clause-replay g c =
    let program = g.P.NodeProgram.program in
    let rows = c.args.rows.now in
    let i = c.loop-index.index in
    let all : take i rows ≡ rows = take_all i rows (let past = c.loop-index-test.false in omega (arith, past)) in
    subst (λ l. IsStampedReplay program c.args.state.now.net l c.loop-index.state.state) all c.loop-index.invariant.replay

pub returns-clause-table : goal.returns-clause-table
returns-clause-table g c =
    let rows = c.args.rows.now in
    let i = c.loop-index.index in
    let all : take i rows ≡ rows = take_all i rows (let past = c.loop-index-test.false in omega (arith, past)) in
    subst (λ l. IsTableOf l c.loop-index.table) all c.loop-index.invariant.table
