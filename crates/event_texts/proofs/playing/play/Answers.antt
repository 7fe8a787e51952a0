use Rattle.std.proofs.Common.{◌∙◌, ap, get_or, subst, sym}
use Rattle.std.proofs.lemmas.List.{get_or_default}
use Rattle.dimacs_col.proofs.Refused.{err_says}
use Rattle.event_rule.specs.declared.event.Event.TheVariants.{Pulse}
use Rattle.event_rule.specs.Step.{step}
use Rattle.event_texts.specs.Played.{IsFaultOfStep}
use Rattle.event_texts.proofs.Plays.{fault-reported, play-next}
use Rattle.event_texts.proofs.playing.play.Goals as goal

pub loop-row-preserved : goal.loop-row-preserved
loop-row-preserved g c =
    let program = g.P.NodeProgram.program in
    let script = c.args.script.now in
    let i = c.loop-row.row-index in
    let row = get_or script i (0, Pulse 0) in
    record {
      net = c.step.ensures.net ∙ c.loop-row.invariant.net;
      run = play-next program c.args.net.now script i row c.loop-row-test.true (get_or_default script i (0, Pulse 0) row c.loop-row-test.true)
          c.loop-row.state.state c.loop-row.invariant.run c.step.new.self.state
          (ap (λ n. step program n c.loop-row.state.state row.1) (sym c.loop-row.invariant.net) ∙ c.in-Ok.ensures.step);
    }

pub returns-in-Err-clause-fault : goal.returns-in-Err-clause-fault
returns-in-Err-clause-fault g c =
    let program = g.P.NodeProgram.program in
    let script = c.args.script.now in
    let i = c.loop-row.row-index in
    let row = get_or script i (0, Pulse 0) in
    let state = c.loop-row.state.state in
    fault-reported program c.args.net.now script i row c.loop-row-test.true (get_or_default script i (0, Pulse 0) row c.loop-row-test.true) state
    c.loop-row.invariant.run c.in-Err.refused c.fault_of.result
    (λ no. ap (λ n. step program n state row.1) (sym c.loop-row.invariant.net) ∙ c.in-Err.ensures.step no)
    (subst (λ n. IsFaultOfStep program n state row.0 row.1 c.in-Err.refused c.fault_of.result) c.loop-row.invariant.net
    (subst (λ view. IsFaultOfStep program view.net view.state row.0 row.1 c.in-Err.refused c.fault_of.result) c.in-Err.ensures.refused
    c.fault_of.ensures))

pub returns-clause-net : goal.returns-clause-net
returns-clause-net g c = c.loop-row.invariant.net

pub returns-in_err-state-clause-net : goal.returns-in_err-state-clause-net
returns-in_err-state-clause-net g c = err_says _ _ c.from_residual.result c.from_residual.ensures.1

pub returns-in_err-state-clause-ok : goal.returns-in_err-state-clause-ok
returns-in_err-state-clause-ok g c = err_says _ _ c.from_residual.result c.from_residual.ensures.1
