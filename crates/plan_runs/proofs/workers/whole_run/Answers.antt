use Rattle.std.proofs.Common.{◌≡◌, subst, sym, true}
use Rattle.std.specs.Prelude.{IfErr, IfOk}
use Rattle.outcomes.specs.Outcome.{IsOutcome, is_whole}
use Rattle.run_options.specs.Ranges.{AreInRange}
use Rattle.plan_runs.specs.Workers.{IsFaultOfRun, MayRun}
use Rattle.plan_runs.proofs.Ran.{err-maps, may-run, ok-maps, whole-fault, whole-is, whole-outcome, whole-range}
use Rattle.plan_runs.proofs.Working.{with_transcript, without_transcript}
use Rattle.plan_runs.proofs.workers.whole_run.Given.{Over}
use Rattle.plan_runs.proofs.workers.whole_run.Goals.{After-unless_stopped}
use Rattle.plan_runs.proofs.workers.whole_run.Goals as goal

-- The plan: what the run of workers returned is what such a run may return (may); all clauses follow from it by the equation.
may : (g : Over) (c : After-unless_stopped g)
    → MayRun g.P.NodeProgram.program c.args.network.now c.args.options c.args.transcript c.run_workers.result
may g c =
    let o = c.args.options in
    let t = c.args.transcript in
    may-run g.P.NodeProgram.program c.args.network.now o t c.run_workers.result
    (ok-maps c.run_workers.result (λ _. without_transcript o t) c.run_workers.ensures.in_range) c.run_workers.ensures.outcome
    (err-maps c.run_workers.result (λ fault no e is. no e (with_transcript o t is)) c.run_workers.ensures.bad_options)
    (λ out. c.run_workers.ensures.reported_first (λ is. out (without_transcript o t is))) c.run_workers.ensures.stamps_fit

pub returns-clause-outcome : goal.returns-clause-outcome
returns-clause-outcome g c =
    let o = c.args.options in
    let program = g.P.NodeProgram.program in
    subst (λ r. IfOk r (λ outcome. IsOutcome program c.args.network.now o.capacity c.args.transcript outcome)) (sym c.unless_stopped.ensures.whole)
    (whole-outcome program c.args.network.now o c.args.transcript c.run_workers.result (may g c))

pub returns-clause-whole : goal.returns-clause-whole
returns-clause-whole g c =
    subst (λ r. IfOk r (λ outcome. is_whole outcome ≡ true)) (sym c.unless_stopped.ensures.whole) (whole-is c.run_workers.result)

pub returns-clause-in_range : goal.returns-clause-in_range
returns-clause-in_range g c =
    subst (λ r. IfOk r (λ _. AreInRange c.args.options)) (sym c.unless_stopped.ensures.whole)
    (whole-range g.P.NodeProgram.program c.args.network.now c.args.options c.args.transcript c.run_workers.result (may g c))

pub returns-clause-fault : goal.returns-clause-fault
returns-clause-fault g c =
    subst (λ r. IfErr r (IsFaultOfRun g.P.NodeProgram.program c.args.network.now c.args.options c.args.transcript))
    (sym c.unless_stopped.ensures.whole)
    (whole-fault g.P.NodeProgram.program c.args.network.now c.args.options c.args.transcript c.run_workers.result (may g c))

pub returns-clause-of_run : goal.returns-clause-of_run
returns-clause-of_run g c = (c.run_workers.result, may g c, c.unless_stopped.ensures.whole)
