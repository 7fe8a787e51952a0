-- What may come to a node: by phase, kind of payload and role of the port, and by value.
use Rattle.std.specs.Prelude.{ℕ, ◌==◌, Bool, true, false, if◌then◌else◌, nat_lt, nat_le}
use Rattle.std.specs.Prelude.{List, Option, Some, None, slice_index}
use Rattle.forest_merge.specs.Free.{is_among}
use Rattle.node_api.specs.Program.{span}
use Rattle.forests.specs.Forests.{forest}
use Rattle.forests.specs.declared.numbering.Role.{Role}
use Rattle.forests.specs.declared.numbering.Role.TheVariants.{Unknown, Up, Down}
use Rattle.colour_rules.specs.declared.phase.Phase.{Phase}
use Rattle.colour_rules.specs.declared.phase.Phase.TheVariants.{Greet, Orient, Seed, Work, Merge, Halted}
use Rattle.colour_rules.specs.declared.payload.Payload.{Payload}
use Rattle.colour_rules.specs.declared.payload.Payload.TheVariants.{Hello, Label, Colour, Chosen}
use Rattle.colour_rules.specs.declared.phase.Reduction.{Reduction}
use Rattle.colour_rules.specs.declared.phase.Reduction.TheVariants.{Step, Shift, Drop}
use Rattle.colour_rules.specs.declared.rules.TheConstants.{WRONG_KIND, WRONG_ROLE, AFTER_HALT}
use Rattle.colour_rules.specs.declared.rules.TheConstants.{FOREST_RANGE, COLOUR_RANGE}
use Rattle.colour_rules.specs.Node.{Node}

-- The table: a payload in a phase, from a port of a role, is due (None), or breaks a rule: it is of the wrong kind,
-- or comes from a port of the wrong role, or after the last pulse.
abbrev pub cell : Phase → Role → Payload → Option ℕ
cell Greet role payload = Some WRONG_KIND
cell Orient Unknown (Hello n) = None
cell Orient (Up f) (Hello n) = Some WRONG_ROLE
cell Orient (Down f) (Hello n) = Some WRONG_ROLE
cell Orient role (Label f) = Some WRONG_KIND
cell Orient role (Colour c) = Some WRONG_KIND
cell Orient role (Chosen c) = Some WRONG_KIND
cell Seed Unknown (Label f) = None
cell Seed (Up g) (Label f) = Some WRONG_ROLE
cell Seed (Down g) (Label f) = Some WRONG_ROLE
cell Seed role (Hello n) = Some WRONG_KIND
cell Seed role (Colour c) = Some WRONG_KIND
cell Seed role (Chosen c) = Some WRONG_KIND
cell (Work reduction) (Up f) (Colour c) = None
cell (Work reduction) Unknown (Colour c) = Some WRONG_ROLE
cell (Work reduction) (Down f) (Colour c) = Some WRONG_ROLE
cell (Work reduction) role (Hello n) = Some WRONG_KIND
cell (Work reduction) role (Label f) = Some WRONG_KIND
cell (Work reduction) role (Chosen c) = Some WRONG_KIND
cell (Merge f s) Unknown (Chosen c) = Some WRONG_ROLE
cell (Merge f s) (Up g) (Chosen c) = None
cell (Merge f s) (Down g) (Chosen c) = None
cell (Merge f s) role (Hello n) = Some WRONG_KIND
cell (Merge f s) role (Label g) = Some WRONG_KIND
cell (Merge f s) role (Colour c) = Some WRONG_KIND
cell Halted role payload = Some AFTER_HALT

-- whether a port of a role has to bring a payload in a phase
abbrev pub is_due : Phase → Role → Bool
is_due Greet role = false
is_due Orient role = true
is_due Seed Unknown = true
is_due Seed (Up f) = false
is_due Seed (Down f) = false
is_due (Work reduction) Unknown = false
is_due (Work reduction) (Up f) = true
is_due (Work reduction) (Down f) = false
is_due (Merge f s) role = false
is_due Halted role = false

-- the greatest colour that may come into bit step k, which is not the first: what the steps before it leave
abbrev pub step_bound : ℕ → ℕ
step_bound k = if k == 1 then 255 else if k == 2 then 15 else 7

-- whether a colour is too high: any may come into the first bit step, and a class is dropped as the greatest colour
abbrev pub is_above : Reduction → ℕ → Bool
is_above (Step k) c = if k == 0 then false else nat_lt (step_bound k) c
is_above (Shift x) c = nat_lt x c
is_above (Drop x) c = nat_lt x c

-- whether a forest is known, and is one of those up to f
abbrev is_up_to : ℕ → Option ℕ → Bool
is_up_to f None = false
is_up_to f (Some g) = nat_le g f

-- whether a port is of one of the forests up to f
abbrev pub is_merged : ℕ → Role → Bool
is_merged f role = is_up_to f (forest role)

-- The rule that a due payload breaks by its value: no such forest, or no such identifier or colour.
-- `earlier` has the identifiers that the ports before brought.
abbrev pub value_rule : Node → List ℕ → Phase → Role → Payload → Option ℕ
value_rule node earlier Orient role (Hello n) =
    if n == node.id then Some COLOUR_RANGE else if is_among earlier n then Some COLOUR_RANGE else None
value_rule node earlier Seed role (Label f) = if nat_lt f node.sizes.forests then None else Some FOREST_RANGE
value_rule node earlier (Work reduction) (Up f) (Colour c) =
    if is_above reduction c then Some COLOUR_RANGE
    else if c == slice_index node.colours f then Some COLOUR_RANGE else None
value_rule node earlier (Merge f s) role (Chosen c) =
    if s == 0 then Some FOREST_RANGE else if is_merged f role
    then (if nat_lt (span node.sizes) c then Some COLOUR_RANGE else None) else Some FOREST_RANGE
value_rule node earlier phase role payload = None
