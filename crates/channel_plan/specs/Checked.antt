-- What is right and what is wrong with the rows of a plan, for a network.
use Rattle.std.specs.Prelude.{◌≡◌, ◌≤◌, ◌+◌, ◌-◌, ℕ, Bool, false, Option, Some, None, List, [], ◌∷◌, ◌++◌, ◌==◌, ◌&&◌}
use Rattle.std.specs.Prelude.{if◌then◌else◌, Contains, count_by, fold, is_none, is_some, length, map, max, nat_lt}
use Rattle.std.specs.Prelude.{not, option_map, slice_index_or}
use Rattle.std.specs.List.{find, list_any}
use Rattle.std.specs.Option.{option_or}
use Rattle.interference.specs.Net.{Net, IsBarred, IsEdge, IsVertex, bars_of, count_of, neighbours, span_of, vertices}
use Rattle.channel_plan.specs.Reading.{Row}
use Rattle.channel_plan.specs.declared.plan.CheckFault.{CheckFault}
use Rattle.channel_plan.specs.declared.plan.CheckFault.TheVariants.{Missing, Stranger, Twice, Clash, TooHigh, Barred}
use Rattle.channel_plan.specs.declared.plan.CheckFault.TheVariants.{Memory}

-- the greatest channel of some rows, 0 for none
abbrev pub greatest_channel : List Row → ℕ
greatest_channel rows = fold max 0 (map (λ row. row.1) rows)

-- a channel may be at most Δ + B + 1
abbrev pub most_channel : Net → ℕ
most_channel net = span_of net + 1

-- whether a channel, a colour plus one, is barred at a vertex
abbrev pub is_channel_barred : Net → ℕ → ℕ → Bool
is_channel_barred net v channel = list_any (λ colour. colour + 1 == channel) (bars_of net v)

-- A plan that is right: each vertex has one row, no row is of another vertex, no channel is above Δ + B + 1,
-- none is barred at its vertex, and no two neighbours share a channel.
pub record IsProper (net : Net) (rows : List Row) : Type 0 where
  pub one_row : (v : ℕ) → IsVertex net v → count_by (λ row. row.0 == v) rows ≡ 1
  pub no_stranger : (row : Row) → Contains rows row → IsVertex net row.0
  pub within : (row : Row) → Contains rows row → row.1 ≤ most_channel net
  pub unbarred : (v colour : ℕ) → Contains rows (v, colour + 1) → IsBarred net v colour → ⊥
  pub differ : (v w channel : ℕ) → IsEdge net v w → Contains rows (v, channel) → Contains rows (w, channel) → ⊥

-- the channel of the first row of a vertex
abbrev pub channel_of : List Row → ℕ → Option ℕ
channel_of [] v = None
channel_of (row ∷ rows) v = if row.0 == v then Some row.1 else channel_of rows v

abbrev pub is_vertex : Net → ℕ → Bool
is_vertex net v = nat_lt 0 v && not (nat_lt (count_of net) v)

-- what is wrong with a row after the rows before it, in the order in which it is channels_in for
unfoldable pub row_fault : Net → List Row → Row → Option CheckFault
row_fault net before row =
    if not (is_vertex net row.0) then Some (Stranger row.0)
    else (if is_some (channel_of before row.0) then Some (Twice row.0)
    else (if nat_lt (most_channel net) row.1 then Some (TooHigh row.0)
    else (if is_channel_barred net row.0 row.1 then Some (Barred row.0) else None)))

-- the fault of the first row that has one, after some rows
unfoldable pub rows_fault : Net → List Row → List Row → Option CheckFault
rows_fault net before [] = None
rows_fault net before (row ∷ rows) = option_or (row_fault net before row) (rows_fault net (before ++ row ∷ []) rows)

-- channels by vertex
abbrev pub Channels : Type 0
Channels = ℕ → Option ℕ

-- the least vertex that has no channel
abbrev pub first_missing : Net → Channels → Option ℕ
first_missing net channels = find (λ v. is_none (channels v)) (vertices net)

abbrev pub same_channel : Option ℕ → Option ℕ → Bool
same_channel (Some a) (Some b) = a == b
same_channel _ _ = false

-- a greater neighbour that has the channel of v
abbrev pub clashes : Channels → ℕ → ℕ → Bool
clashes channels v w = nat_lt v w && same_channel (channels v) (channels w)

-- the least of them, with v before it
abbrev pub clash_at : Net → Channels → ℕ → Option (ℕ × ℕ)
clash_at net channels v = option_map (λ w. (v, w)) (find (clashes channels v) (neighbours net v))

abbrev pub clash_among : Net → Channels → List ℕ → Option (ℕ × ℕ)
clash_among net channels [] = None
clash_among net channels (v ∷ vs) = option_or (clash_at net channels v) (clash_among net channels vs)

-- of the neighbours that share a channel, the first two, by the smaller vertex and then by the greater
abbrev pub first_clash : Net → Channels → Option (ℕ × ℕ)
first_clash net channels = clash_among net channels (vertices net)

-- The fault of a plan: that of its first wrong row; else the least vertex without a row; else the first clash.
unfoldable pub fault_of : Net → List Row → Option CheckFault
fault_of net rows =
    option_or (rows_fault net [] rows)
    (option_or (option_map Missing (first_missing net (channel_of rows)))
    (option_map (λ pair. Clash pair.0 pair.1) (first_clash net (channel_of rows))))

-- a fault that is told of a plan; that memory ran out says nothing of it
abbrev pub IsFaultOfPlan : Net → List Row → CheckFault → Type 0
IsFaultOfPlan net rows Memory = Unit {0}
IsFaultOfPlan net rows fault = fault_of net rows ≡ Some fault

-- the same of its first wrong row
abbrev pub IsFaultOfRow : Option CheckFault → CheckFault → Type 0
IsFaultOfRow wrong Memory = Unit {0}
IsFaultOfRow wrong fault = wrong ≡ Some fault

-- a table of channels, of which entry v - 1 is of vertex v
abbrev pub channels_in : List (Option ℕ) → Channels
channels_in table v = slice_index_or table (v - 1) None

-- the table has the channels of some rows
pub record IsTable (net : Net) (rows : List Row) (table : List (Option ℕ)) : Type 0 where
  pub size : length table ≡ count_of net
  pub each : (v : ℕ) → IsVertex net v → channels_in table v ≡ channel_of rows v

-- whatever rows the old table has, one more row is right behind them, and the new table has it too
abbrev pub TakesRow : Net → Row → List (Option ℕ) → List (Option ℕ) → Type 0
TakesRow net row old new = (before : List Row) → IsTable net before old
    → (row_fault net before row ≡ None) × IsTable net (before ++ row ∷ []) new

-- whatever rows the table has, this is the fault of one more row behind them
abbrev pub RefusesRow : Net → Row → List (Option ℕ) → CheckFault → Type 0
RefusesRow net row table fault = (before : List Row) → IsTable net before table
    → IsFaultOfRow (row_fault net before row) fault
