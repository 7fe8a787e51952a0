-- The entries of all nodes, taken one by one in the order of the stamps and then of the vertices.
use Rattle.std.specs.Prelude.{◌≡◌, ℕ, ◌+◌, ◌<◌, ◌==◌, ◌&&◌, Bool, false, cond, List, [], ◌∷◌, Option, Some, None}
use Rattle.std.specs.Prelude.{count_by, length, slice_index_or, slice_set}
use Rattle.std.specs.BinaryHeap.{IsHeap}
use Rattle.std.specs.Ordering.{nat_cmp, ordering_then}
use Rattle.std.specs.declared.cmp.Ordering.{Ordering}
use Rattle.std.specs.declared.cmp.Reverse.{Reverse}
use Rattle.entries.specs.Rows.{stamped_row, without_vertex}
use Rattle.entries.specs.declared.rows.StampedEntry.{StampedEntry}
use Rattle.entries.specs.declared.rows.StampedRow.{StampedRow}
use Rattle.stamps.specs.Merged.{Precedes}

-- the stamp of the first entry that a node has left, and the index of the node, from 0
abbrev pub Key : Type 0
Key = Reverse (ℕ × ℕ)

-- the order of a heap that has the least key on top: by the stamp, and then by the index
abbrev pub key_cmp : Key → Key → Ordering
key_cmp a b = ordering_then (nat_cmp b.0.0 a.0.0) (nat_cmp b.0.1 a.0.1)

-- whether a key has this stamp and this index
abbrev pub is_key : ℕ → ℕ → Key → Bool
is_key s i key = (key.0.0 == s) && (key.0.1 == i)

module _ {M : Type 0} where
  -- the first entry, if there is one, and those behind it
  abbrev pub list_from : Option (StampedEntry M) → List (StampedEntry M) → List (StampedEntry M)
  list_from None behind = []
  list_from (Some first) behind = first ∷ behind

  -- whether the first entry has this stamp
  abbrev pub starts_at : List (StampedEntry M) → ℕ → Bool
  starts_at [] s = false
  starts_at (e ∷ entries) s = e.stamp == s

  -- how many keys there are of a stamp and of the index of a list: one if the first entry has the stamp
  abbrev pub keys_in : List (StampedEntry M) → ℕ → ℕ
  keys_in list s = cond (starts_at list s) 1 0

  -- The keys are in a heap: that of the first entry of each list that isn't empty, once, and no other.
  pub record AreKeys (lists : List (List (StampedEntry M))) (keys : List Key) : Type 0 where
    pub once : (s i : ℕ) → count_by (is_key s i) keys ≡ keys_in (slice_index_or lists i []) s
    pub heap : IsHeap key_cmp keys

  -- The new keys are the old ones and that of a list with this index, if it isn't empty.
  pub record IsKeyAdded (list : List (StampedEntry M)) (index : ℕ) (old new : List Key) : Type 0 where
    pub here : (s : ℕ) → count_by (is_key s index) new ≡ keys_in list s + count_by (is_key s index) old
    pub others : (s i : ℕ) → (i ≡ index → ⊥) → count_by (is_key s i) new ≡ count_by (is_key s i) old

  -- The row was the first entry of the list of its vertex, whose index is one less, and may come before all other first
  -- entries.
  pub record IsTaken (old new : List (List (StampedEntry M))) (row : StampedRow M) : Type 0 where
    pub index : ℕ
    pub vertex : row.vertex ≡ index + 1
    pub within : index < length old
    pub behind : List (StampedEntry M)
    pub was : slice_index_or old index [] ≡ without_vertex row ∷ behind
    pub is : new ≡ slice_set old index behind
    pub least : (i : ℕ) (e : StampedEntry M) (more : List (StampedEntry M)) → slice_index_or old i [] ≡ e ∷ more
        → Precedes row (stamped_row e.stamp (i + 1) e.entry)

  -- all lists are empty
  abbrev pub NoneLeft : List (List (StampedEntry M)) → Type 0
  NoneLeft lists = (i : ℕ) → slice_index_or lists i [] ≡ []
