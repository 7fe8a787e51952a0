-- What the outcome of a run of workers is, if the program is followed.
use Rattle.std.specs.Prelude.{ℕ, Bool}
use Rattle.interference.specs.Net.{IsNetwork, Net}
use Rattle.node_api.specs.Program.{Program}
use Rattle.node_api.specs.declared.program.Refused.{Refused}
use Rattle.outcomes.specs.Outcome.{IsOutcome, Outcome, node_in, taken_by}
use Rattle.followed.specs.declared.said.Said.{Said}
use Rattle.followed.specs.Followed.{Both, IsCut, Sequel, followed}
use Rattle.bound_laws.specs.Composition.{cut_on}
use Rattle.bound_laws.specs.Simulated.{SimulateBoth}

-- Whatever the threads did, the nodes of every outcome simulate the first program, and then the sequel.
abbrev pub OutcomesSimulateBoth : {S X A B : Type 0} → Program S A Refused → Sequel S X A B → Type 0
OutcomesSimulateBoth {S} {X} {A} {B} first sequel =
    (laws : IsCut first sequel) (net : Net) → IsNetwork net
    → (capacity : ℕ) (transcript : Bool) (outcome : Outcome (Both S X) (Said A B))
    → IsOutcome (followed first sequel) net capacity transcript outcome
    → SimulateBoth first sequel net (cut_on laws net) (node_in (followed first sequel) net outcome)
    (taken_by net outcome)
