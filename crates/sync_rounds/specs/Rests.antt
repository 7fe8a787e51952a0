-- What the engine keeps: before which pulses nodes rest, an empty outbox for each degree, what was sent, and by whom.
use Rattle.std.specs.Prelude.{◌≡◌, ◌↔◌, ℕ, ◌+◌, ◌<◌, ◌≤◌, Bool, false, true, List, length, map, Option, slice_index_or}
use Rattle.interference.specs.Net.{Net, IsVertex, count_of, degree_of, vertices}
use Rattle.node_api.specs.Boxes.{nothing}
use Rattle.node_api.specs.Program.{Program, RestsUntil}
use Rattle.node_api.specs.Run.{outbox_at, state_at}

-- what every vertex sends at a pulse, vertex 1 first
abbrev pub sent_by : {S M E : Type 0} → Program S M E → Net → ℕ → List (List (Option M))
sent_by program net p = map (outbox_at program net p) (vertices net)

-- Entry v - 1 is a pulse before which vertex v, which has made pulse p, does nothing while nothing comes.
pub record AreResting {S M E : Type 0} (program : Program S M E) (net : Net) (p : ℕ) (untils : List ℕ) : Type 0 where
  pub count : length untils ≡ count_of net
  pub rest : (k d : ℕ) → k < count_of net
      → RestsUntil program (state_at program net p (k + 1)) p (slice_index_or untils k d)

-- this says of a vertex whether it sent something at a pulse
abbrev pub IsLoud : {S M E : Type 0} → Program S M E → Net → ℕ → ℕ → Bool → Type 0
IsLoud program net p v loud = (loud ≡ false) ↔ (outbox_at program net p v ≡ nothing (degree_of net v))

-- Entry v - 1 says whether vertex v sent something at pulse p.
pub record AreLoud {S M E : Type 0} (program : Program S M E) (net : Net) (p : ℕ) (louds : List Bool) : Type 0 where
  pub count : length louds ≡ count_of net
  pub loud : (k : ℕ) (d : Bool) → k < count_of net → IsLoud program net p (k + 1) (slice_index_or louds k d)

-- There is an empty outbox of the degree of each vertex.
pub record HasOutboxes {M : Type 0} (net : Net) (outs : List (List (Option M))) : Type 0 where
  pub within : (v : ℕ) → IsVertex net v → degree_of net v < length outs
  pub empty : (v : ℕ) (d : List (Option M)) → IsVertex net v
      → slice_index_or outs (degree_of net v) d ≡ nothing (degree_of net v)

-- Of the vertices up to n, the list says of the degree of each that it occurs.
abbrev pub HasDegrees : Net → ℕ → List Bool → Type 0
HasDegrees net n occurs = (v : ℕ) → IsVertex net v → v ≤ n → slice_index_or occurs (degree_of net v) false ≡ true
