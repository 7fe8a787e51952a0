-- One program after another: the run of a program that is followed is the run of the first program up to the cut, and
-- then the run of the sequel from its states there.
use Rattle.std.specs.Prelude.{◌≡◌, ℕ, zero, suc, ◌+◌, ◌≤◌, List, Option, map}
use Rattle.interference.specs.Net.{Net, IsNetwork, IsVertex, degree_of}
use Rattle.node_api.specs.Program.{Program, own_of, sizes_of}
use Rattle.node_api.specs.Run.{after, inbox_from, node_at, outbox_at, state_at}
use Rattle.node_api.specs.declared.program.Refused.{Refused}
use Rattle.followed.specs.declared.said.Said.{Said}
use Rattle.followed.specs.Said.{said, told_by}
use Rattle.followed.specs.Followed.{IsCut, Sequel, beside_of, followed, with_beside}

-- The run of a sequel by itself. The first program left the node of v in `states v`, and these messages of it on their
-- way. Pulses count from 0, as those of a sequel do: at 0 nothing is made yet.
unfoldable pub sequel_at : {S X A B : Type 0} → Sequel S X A B → Net → (ℕ → S) → (ℕ → List (Option A)) → ℕ → ℕ
    → X × List (Option (Said A B))
sequel_at sequel net states left zero v = (sequel.begin (own_of net v), map said (left v))
sequel_at sequel net states left (suc q) v =
    after (sequel_at sequel net states left q v).0 (degree_of net v)
    (sequel.next (states v) (sequel_at sequel net states left q v).0 q
    (inbox_from net (sequel_at sequel net states left q) v))

-- the last pulse of the first program that is made, on a network
abbrev pub cut_on : {S X A B : Type 0} → {first : Program S A Refused} → {sequel : Sequel S X A B} → IsCut first sequel
    → Net → ℕ
cut_on laws net = laws.cut (sizes_of net)

-- the run of a sequel from what the first program has come to at the cut
abbrev pub run_after : {S X A B : Type 0} → Program S A Refused → Sequel S X A B → Net → ℕ → ℕ → ℕ
    → X × List (Option (Said A B))
run_after first sequel net cut q v = sequel_at sequel net (state_at first net cut) (outbox_at first net cut) q v

-- The run is that of the first program up to this pulse, and that of the sequel after it.
pub record IsComposition {S X A B : Type 0} (first : Program S A Refused) (sequel : Sequel S X A B) (net : Net)
    (cut : ℕ) : Type 0 where
  -- Up to the cut a node is in the state of the first program's run, and sends what it sends; beside it has what it
  -- began with.
  pub up_to_the_cut : (p v : ℕ) → IsVertex net v → p ≤ cut
      → node_at (followed first sequel) net p v
      ≡ with_beside (sequel.begin (own_of net v)) (told_by (node_at first net p v))
  -- Then it keeps the state that it has at the cut, and has and sends what the run of the sequel has and sends.
  pub after_the_cut : (q v : ℕ) → IsVertex net v
      → node_at (followed first sequel) net (cut + q) v
      ≡ beside_of (state_at first net cut v) (run_after first sequel net cut q v)

-- On every network the run of a program that is followed is a composition.
abbrev pub AreComposed : {S X A B : Type 0} → Program S A Refused → Sequel S X A B → Type 0
AreComposed first sequel = (laws : IsCut first sequel) (net : Net) → IsNetwork net
    → IsComposition first sequel net (cut_on laws net)
