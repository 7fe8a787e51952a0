-- What nodes that simulate a program that is followed simulate: the first program, and then the sequel.
use Rattle.std.specs.Prelude.{◌≡◌, ℕ, suc, ◌-◌, ◌<◌, ◌≤◌, List, map}
use Rattle.interference.specs.Net.{Net, IsNetwork, IsVertex}
use Rattle.node_api.specs.Program.{Program, own_of}
use Rattle.node_api.specs.Run.{inbox_at, inbox_from, state_at}
use Rattle.node_api.specs.declared.program.Refused.{Refused}
use Rattle.wires.specs.declared.wire.Wire.{Wire}
use Rattle.alpha_core.specs.View.{Node}
use Rattle.alpha_laws.specs.Simulates.{Simulates, heard_at}
use Rattle.followed.specs.declared.said.Said.{Said}
use Rattle.followed.specs.Said.{said}
use Rattle.followed.specs.Followed.{Both, IsCut, Sequel, both_of, followed}
use Rattle.bound_laws.specs.Composition.{cut_on, run_after}

-- The nodes simulate the first program up to the cut, and then the sequel. `taken` are the lists that each node has
-- taken from its links, by port.
pub record SimulateBoth {S X A B : Type 0} (first : Program S A Refused) (sequel : Sequel S X A B) (net : Net) (cut : ℕ)
    (nodes : ℕ → Node (Both S X) (Said A B)) (taken : ℕ → ℕ → List (Wire (Said A B))) : Type 0 where
  -- A node at pulse p up to the cut is in the state of the first program's run at p, and beside it has what it began
  -- with.
  pub first_state : (v : ℕ) → IsVertex net v → (nodes v).view.pulse ≤ cut
      → (nodes v).state ≡ both_of (state_at first net (nodes v).view.pulse v) (sequel.begin (own_of net v))
  -- A node q pulses after the cut has its state of the first program at the cut, and is in that of the sequel's run at
  -- q.
  pub then_state : (v : ℕ) → IsVertex net v → cut ≤ (nodes v).view.pulse
      → (nodes v).state
      ≡ both_of (state_at first net cut v) (run_after first sequel net cut ((nodes v).view.pulse - cut) v).0
  -- Each pulse up to the cut that a node has made had exactly the first program's inbox of that round.
  pub first_inboxes : (v p : ℕ) → IsVertex net v → p < (nodes v).view.pulse → p < cut
      → heard_at net (taken v) v p ≡ map said (inbox_at first net (suc p) v)
  -- And each pulse after it had exactly the sequel's.
  pub then_inboxes : (v p : ℕ) → IsVertex net v → p < (nodes v).view.pulse → cut ≤ p
      → heard_at net (taken v) v p ≡ inbox_from net (run_after first sequel net cut (p - cut)) v

-- Nodes that simulate a program that is followed simulate both.
abbrev pub FollowedSimulateBoth : {S X A B : Type 0} → Program S A Refused → Sequel S X A B → Type 0
FollowedSimulateBoth {S} {X} {A} {B} first sequel =
    (laws : IsCut first sequel) (net : Net) → IsNetwork net
    → (nodes : ℕ → Node (Both S X) (Said A B)) (sent taken : ℕ → ℕ → List (Wire (Said A B)))
    → Simulates (followed first sequel) net nodes sent taken
    → SimulateBoth first sequel net (cut_on laws net) nodes taken
