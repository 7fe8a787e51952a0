use Rattle.std.proofs.Common.{◌∷◌, [], ◌+◌, ap, sym, ◌∙◌, get_or, take}
use Rattle.std.proofs.lemmas.List.{get_or_default}
use Rattle.std.proofs.lemmas.Result.{err_from_is_err_and}
use Rattle.event_rule.specs.declared.event.Event.TheVariants.{Pulse}
use Rattle.event_rule.specs.Step.{run, run_from, step}
use Rattle.event_rule.proofs.Reached.{run_next, run_stops}
use Rattle.net_core.proofs.Ones.{made, stopped}
use Rattle.net_core.proofs.running.run.Goals as goal

pub returns-in_err-make-clause-run : goal.returns-in_err-make-clause-run
returns-in_err-make-clause-run g c =
    let program = g.P.NodeProgram.program in
    let net = c.args.net.now in
    let events = c.args.events.now in
    let i = c.loop-index.index in
    let event = get_or events i (Pulse 0) in
    let state = c.loop-index.state.state in
    let p = err_from_is_err_and c.from_residual-in_err-make.result c.from_residual-in_err-make.ensures.1 in
    rw (p.1, p.2) (λ never. stopped i (step program net state event) (run program net events) _
    (ap (λ n. run_from program n i (event ∷ []) state) (sym c.loop-index.invariant.net) ∙ c.in_err-make.ensures.refused never)
    (run_stops program net events i event c.loop-index-test.true (get_or_default events i (Pulse 0) event c.loop-index-test.true) state
    c.loop-index.invariant.run))

pub loop-index-preserved : goal.loop-index-preserved
loop-index-preserved g c =
    let program = g.P.NodeProgram.program in
    let net = c.args.net.now in
    let events = c.args.events.now in
    let i = c.loop-index.index in
    let event = get_or events i (Pulse 0) in
    let state = c.loop-index.state.state in
    record {
      net = c.make.ensures.net ∙ c.loop-index.invariant.net;
      run = made i (step program net state event) (run program net (take (i + 1) events)) _
          (ap (λ n. run_from program n i (event ∷ []) state) (sym c.loop-index.invariant.net) ∙ c.in_ok-make.ensures.made)
          (run_next program net events i event c.loop-index-test.true (get_or_default events i (Pulse 0) event c.loop-index-test.true) state
          c.loop-index.invariant.run);
    }
