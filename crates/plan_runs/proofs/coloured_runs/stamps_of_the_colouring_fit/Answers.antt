use Rattle.std.proofs.Common.{arith}
use Rattle.colour_rules.specs.Program.{colouring}
use Rattle.colour_laws.proofs.Rounds.{rounds_are_program}
use Rattle.plan_runs.proofs.Stamped.{stamps-fit}
use Rattle.plan_runs.proofs.coloured_runs.stamps_of_the_colouring_fit.Goals as goal

pub returns : goal.returns
returns c = record {
  law = λ net ok.
      let limited = c.last_pulse_is_limited.ensures net ok in
      stamps-fit colouring rounds_are_program net ok (omega (arith, limited));
}
