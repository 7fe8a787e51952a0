use Rattle.std.proofs.Common.{subst}
use Rattle.outcomes.specs.Outcome.{IsOutcome}
use Rattle.node_pool.proofs.run.run_and_gather.Goals as goal

-- the links that are gathered are those that were made
pub returns : goal.returns
returns g c =
    let capacity = c.args.options.capacity in
    record {
      outcome = subst (λ t. IsOutcome g.P.NodeProgram.program c.args.net.now capacity t c.in_ok-gathered.field-0) c.requires.transcript
          (c.in_ok-gathered.ensures.outcome capacity c.in_ok-nodes.ensures.room);
    }
