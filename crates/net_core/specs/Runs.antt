-- What a call of `run` returns.
use Rattle.std.specs.Prelude.{◌≡◌, ◌≢◌, List, Result, Ok, Err, MatchResult}
use Rattle.interference.specs.Net.{Net}
use Rattle.node_api.specs.Program.{Program}
use Rattle.event_rule.specs.declared.event.Event.{Event}
use Rattle.event_rule.specs.declared.refused.RunRefused.{RunRefused}
use Rattle.event_rule.specs.declared.refused.RunRefused.TheVariants.{Memory}
use Rattle.event_rule.specs.State.{NetView}
use Rattle.event_rule.specs.Step.{run}

-- A call of `run` does what the function says: it returns its state, or refuses as it says. Of memory the function says
-- nothing.
abbrev pub RunMatches : {S M E : Type 0} → Program S M E → Net → List Event → Result (NetView S M) RunRefused → Type 0
RunMatches program net events result = MatchResult result
    (λ view. (view.net ≡ net) × (run program net events ≡ Ok view.state))
    (λ refused. refused ≢ Memory → run program net events ≡ Err refused)
