-- What events in a row lead to, and whether there was one.
use Rattle.std.specs.Prelude.{◌≡◌, ◌<◌, Bool, true, false}
use Rattle.node_api.specs.Program.{Program}
use Rattle.event_rule.specs.State.{NetView}
use Rattle.event_rule.specs.Progress.{events_in}

-- Events, of which there was one or more if `did`, lead from a state to another: it shows more events then, and else it
-- is the same.
pub record Went {S M E : Type 0} (program : Program S M E) (old : NetView S M) (did : Bool)
    (new : NetView S M) : Type 0 where
  pub net : new.net ≡ old.net
  pub more : did ≡ true → events_in program old.net old.state < events_in program old.net new.state
  pub none : did ≡ false → new ≡ old
