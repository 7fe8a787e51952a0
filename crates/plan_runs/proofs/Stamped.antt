-- Stamps are at most as many as the events of a whole run, and these are fewer than 2^64.
use Rattle.std.proofs.Common.{◌^◌, ◌<◌, arith}
use Rattle.interference.specs.Net.{Net, IsNetwork}
use Rattle.node_api.specs.Program.{Program, last_pulse_on}
use Rattle.node_api.specs.Laws.{IsProgram}
use Rattle.outcomes.proofs.MetStamps.{stamps_within}
use Rattle.event_rule.proofs.Short.{few-events}
use Rattle.plan_runs.specs.Stamped.{StampsAreBounded, StampsFit}

module _ {S M E : Type 0} (program : Program S M E) (laws : IsProgram program) (net : Net) (ok : IsNetwork net) where
  pub stamps-bounded : StampsAreBounded program net
  stamps-bounded rows last is = stamps_within program laws net ok rows last is

  pub stamps-fit : last_pulse_on program net < 2 ^ 32 → StampsFit program net
  stamps-fit short rows last is k d lt =
      let stamp = stamps-bounded rows last is k d lt in
      let few = few-events program net ok short in
      omega (arith, stamp, few)
