use Rattle.std.proofs.Common.{◌≡◌, List}
use Rattle.std.specs.Prelude.{Result, Ok, Err, IfOk}
use Rattle.interference.specs.Net.{Net}
use Rattle.node_api.specs.Program.{Program}
use Rattle.event_rule.specs.declared.event.Event.{Event}
use Rattle.event_rule.specs.declared.refused.RunRefused.{RunRefused}
use Rattle.net_core.specs.Runs.{RunMatches}
use Rattle.event_rule.specs.State.{NetView}
use Rattle.checks.proofs.net_core_checks.run_all.Goals as goal

-- what is run on a network is of it
of_net : {S M E : Type 0} (program : Program S M E) (net : Net) (events : List Event) (r : Result (NetView S M) RunRefused)
    → RunMatches program net events r → IfOk r (λ view. view.net ≡ net)
of_net program net events (Ok view) ran = ran.0
of_net program net events (Err why) ran = tt

pub returns : goal.returns
returns g c = record { net = of_net g.P.NodeProgram.program c.args.net.now c.args.events.now c.run.result c.run.ensures.run }
