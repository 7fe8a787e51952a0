-- How the inbox is kept: a mark a port, and a slot for each once there was a payload.
use Rattle.std.specs.Prelude.{◌≡◌, ℕ, ◌<◌, ◌≤◌, Bool, if◌then◌else◌, List, length, slice_get, take, Option, None, map}
use Rattle.std.specs.List.{range_with_len}
use Rattle.interference.specs.declared.limits.TheConstants.{MAX_DEGREE}
use Rattle.node_api.specs.Marks.{count_marks, is_marked}

-- the payload of a port, if the port is marked
abbrev pub slot_of : {M : Type 0} → List Bool → List M → ℕ → Option M
slot_of marks slots port = if is_marked marks port then slice_get slots port else None

-- the payloads of all ports
unfoldable pub slots_of : {M : Type 0} → List Bool → List M → List (Option M)
slots_of marks slots = map (slot_of marks slots) (range_with_len 0 (length marks))

-- There is a slot for each port, or no port is marked.
pub record AreMade (marks : List Bool) (made : ℕ) : Type 0 where
  pub all : 0 < made → made ≡ length marks
  pub some : 0 < count_marks marks → 0 < made

-- So many payloads are at ports before the cursor.
pub record IsRead (marks : List Bool) (read cursor : ℕ) : Type 0 where
  pub counted : read ≡ count_marks (take cursor marks)
  pub within : cursor ≤ length marks

-- The marks, the slots and the count of what was read of a reader are as those of an inbox.
pub record IsReader (marks : List Bool) (slot_count read_count cursor : ℕ) : Type 0 where
  pub degree : length marks ≤ MAX_DEGREE
  pub made : AreMade marks slot_count
  pub read : IsRead marks read_count cursor

-- Every inbox has at most MAX_DEGREE ports, room for a slot at each, and its slots and its count of what was read as
-- above.
pub record IsInbox (marks : List Bool) (capacity slot_count read_count cursor : ℕ) : Type 0 where
  pub degree : length marks ≤ MAX_DEGREE
  pub room : length marks ≤ capacity
  pub made : AreMade marks slot_count
  pub read : IsRead marks read_count cursor
