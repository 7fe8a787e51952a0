-- The stamps of one node's entries. A node has a counter, from 0. A pulse or a put adds one to it; a take makes it one
-- more than the greater of itself and the wire's stamp. The stamp of an entry is the counter after its event, and a
-- wire has the stamp of its put (Lamport 1978).
use Rattle.std.specs.Prelude.{◌≡◌, ℕ, suc, max, ◌<◌, ◌==◌, Bool, if◌then◌else◌, List, [], ◌∷◌, ◌++◌, length}
use Rattle.std.specs.Prelude.{All, slice_index_or}
use Rattle.wires.specs.StampedWires.{stamped, wires_of}
use Rattle.wires.specs.declared.stamped.Stamped.{Stamped}
use Rattle.wires.specs.declared.wire.Wire.{Wire}
use Rattle.entries.specs.declared.entry.Entry.{Entry}
use Rattle.entries.specs.declared.entry.Entry.TheVariants.{Pulse, Put, Take}
use Rattle.entries.specs.declared.rows.StampedEntry.{StampedEntry}

module _ {M : Type 0} where
  -- the wire that an entry put, if its neighbour is one of these, with the stamp of the entry
  abbrev pub put_if : (ℕ → Bool) → ℕ → Entry M → List (Stamped M)
  put_if is_to s (Pulse p) = []
  put_if is_to s (Put to wire) = if is_to to then stamped s wire ∷ [] else []
  put_if is_to s (Take from wire) = []

  -- the wire that it took, likewise
  abbrev pub taken_if : (ℕ → Bool) → ℕ → Entry M → List (Stamped M)
  taken_if is_from s (Pulse p) = []
  taken_if is_from s (Put to wire) = []
  taken_if is_from s (Take from wire) = if is_from from then stamped s wire ∷ [] else []

  -- what the entries put on the link to a neighbour, in order, each wire with the stamp of its put
  abbrev pub put_in : List (StampedEntry M) → ℕ → List (Stamped M)
  put_in [] w = []
  put_in (e ∷ entries) w = put_if (λ to. to == w) e.stamp e.entry ++ put_in entries w

  -- what they took from the link of a neighbour, in order, each wire with the stamp of its take
  abbrev pub taken_in : List (StampedEntry M) → ℕ → List (Stamped M)
  taken_in [] w = []
  taken_in (e ∷ entries) w = taken_if (λ from. from == w) e.stamp e.entry ++ taken_in entries w

  -- the counter of a node that was at c, after these entries: the stamp of the last of them
  abbrev pub counter_from : ℕ → List (StampedEntry M) → ℕ
  counter_from c [] = c
  counter_from c (e ∷ entries) = counter_from e.stamp entries

  abbrev pub counter_of : List (StampedEntry M) → ℕ
  counter_of entries = counter_from 0 entries

  -- The stamp of an entry that comes behind these of its node. The wires that came from a neighbour had these stamps,
  -- by neighbour, in the order in which they were taken; the next one taken has the place of those taken before.
  abbrev pub next_stamp : (ℕ → List ℕ) → List (StampedEntry M) → Entry M → ℕ
  next_stamp came before (Pulse p) = suc (counter_of before)
  next_stamp came before (Put to wire) = suc (counter_of before)
  next_stamp came before (Take from wire) =
      suc (max (counter_of before) (slice_index_or (came from) (length (taken_in before from)) 0))

  -- Each entry of a node has the stamp that its counter gives it.
  abbrev pub AreStamped : (ℕ → List ℕ) → List (StampedEntry M) → Type 0
  AreStamped came entries = (before : List (StampedEntry M)) (e : StampedEntry M) (after : List (StampedEntry M))
      → entries ≡ before ++ (e ∷ after) → e.stamp ≡ next_stamp came before e.entry

  -- The stamps rise.
  abbrev pub Rises : List (StampedEntry M) → Type 0
  Rises [] = Unit {0}
  Rises (e ∷ entries) = All (λ later. e.stamp < later.stamp) entries × Rises entries

  -- The k-th wire taken is the k-th put, and its take has a greater stamp than its put. The wires put and not taken are
  -- held.
  abbrev pub Carries : List (Stamped M) → List (Stamped M) → List (Wire M) → Type 0
  Carries puts [] held = wires_of puts ≡ held
  Carries [] (y ∷ takes) held = ⊥
  Carries (x ∷ puts) (y ∷ takes) held = (x.wire ≡ y.wire) × (x.stamp < y.stamp) × Carries puts takes held
