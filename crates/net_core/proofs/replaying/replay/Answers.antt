use Rattle.std.proofs.Common.{[], ap, drop, suc, sym, take, ◌∙◌, subst}
use Rattle.event_rule.proofs.Parts.{take-split}
use Rattle.event_rule.specs.Step.{step}
use Rattle.event_machine.proofs.Replayed.{replay-next, replay-start}
use Rattle.event_rule.specs.Replays.{IsReplay}
use Rattle.net_core.specs.Replays.{WhyNot, at_entry}
use Rattle.event_rule.specs.Rows.{event_of, row_of}
use Rattle.net_core.proofs.replaying.replay.Goals as goal

pub loop-index-init : goal.loop-index-init
loop-index-init g c =
    let program = g.P.NodeProgram.program in
    record {
      net = ap (λ s. s.net) c.in_ok-state.ensures.start;
      replay = subst (λ s. IsReplay program c.args.net.now [] s) (sym (ap (λ s. s.state) c.in_ok-state.ensures.start))
          (replay-start program c.args.net.now);
    }

pub loop-index-preserved : goal.loop-index-preserved
loop-index-preserved g c =
    let program = g.P.NodeProgram.program in
    let net = c.args.net.now in
    let rows = c.args.entries.now in
    let i = c.loop-index.index in
    let row = c.index-entries-index.result in
    let state = c.loop-index.state.state in
    let made = c.in-Ok.ensures.made in
    record {
      net = made.net ∙ c.loop-index.invariant.net;
      replay = replay-next program net rows i row state c.make_entry.new.state.state c.loop-index-test.true
          c.index-entries-index.is c.loop-index.invariant.replay
          (ap (λ n. step program n state (event_of n row)) (sym c.loop-index.invariant.net) ∙ made.leads)
          (ap (λ n. row_of program n state (event_of n row)) (sym c.loop-index.invariant.net) ∙ made.writes);
    }

pub returns-in-Err-clause-refuses : goal.returns-in-Err-clause-refuses
returns-in-Err-clause-refuses g c =
    let program = g.P.NodeProgram.program in
    let net = c.args.net.now in
    let rows = c.args.entries.now in
    let i = c.loop-index.index in
    let row = c.index-entries-index.result in
    let state = c.loop-index.state.state in
    let parts = take-split rows i row c.loop-index-test.true c.index-entries-index.is in
    λ never. record {
      before = take i rows;
      row = row;
      after = drop (suc i) rows;
      splits = parts.1;
      reached = state;
      is_replay = c.loop-index.invariant.replay;
      reason = c.in-Err.refused;
      why = subst (λ n. WhyNot program n state row c.in-Err.refused) c.loop-index.invariant.net
          (c.in-Err.ensures.refused (λ e. never (c.at.ensures.index ∙ ap (λ r. at_entry i r) e)));
      index = c.at.ensures.index ∙ ap (λ k. at_entry k c.in-Err.refused) (sym parts.2);
    }
