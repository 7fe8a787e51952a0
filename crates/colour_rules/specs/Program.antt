-- What a node makes of a pulse, where nothing is refused, and the node program of the rounds.
use Rattle.std.specs.Prelude.{◌≡◌, ◌≢◌, ℕ, suc, ◌<◌, ◌≤◌, ◌==◌, Bool, false, if◌then◌else◌, List, [], ◌∷◌, length, map}
use Rattle.std.specs.Prelude.{replicate, slice_index, slice_index_or, Option, Some, None, IfSome, Result, Ok, Err}
use Rattle.std.specs.List.{range_with_len}
use Rattle.interference.specs.declared.limits.TheConstants.{MAX_DEGREE}
use Rattle.node_api.specs.Program.{Program}
use Rattle.node_api.specs.Boxes.{at_port}
use Rattle.node_api.specs.declared.program.Refused.{Refused}
use Rattle.cole_vishkin.specs.BitStep.{bit_by}
use Rattle.shift_down.specs.Steps.{shift_by, drop_by}
use Rattle.forests.specs.Forests.{role_by}
use Rattle.forests.specs.declared.numbering.Role.{Role}
use Rattle.forests.specs.declared.numbering.Role.TheVariants.{Unknown, Up, Down}
use Rattle.colour_rules.specs.declared.phase.Reduction.{Reduction}
use Rattle.colour_rules.specs.declared.phase.Reduction.TheVariants.{Step, Shift, Drop}
use Rattle.colour_rules.specs.declared.phase.Phase.{Phase}
use Rattle.colour_rules.specs.declared.phase.Phase.TheVariants.{Greet, Orient, Seed, Work, Merge, Halted}
use Rattle.colour_rules.specs.declared.payload.Payload.{Payload}
use Rattle.colour_rules.specs.declared.payload.Payload.TheVariants.{Hello, Label, Colour, Chosen}
use Rattle.colour_rules.specs.Node.{Node, HasForests, steps, phase_of, last, ports, made, greet}
use Rattle.colour_rules.specs.Choice.{with_heard, chooses, free_for}
use Rattle.colour_rules.specs.Table.{is_merged}
use Rattle.colour_rules.specs.Refusals.{ids_in, refusal}

-- what a port is after Orient, by the identifier that it brought
abbrev pub oriented_slot : ℕ → List ℕ → Option Payload → Role
oriented_slot own ids (Some (Hello n)) = role_by own ids n
oriented_slot own ids slot = Unknown

-- what a port is after Seed: where the neighbour says which forest, the port leads to a child there
abbrev pub role_after_seed : Role → Option Payload → Role
role_after_seed Unknown (Some (Label f)) = Down f
role_after_seed role slot = role

-- every port after Seed
abbrev pub all_labelled : List Role → List (Option Payload) → List Role
all_labelled (role ∷ roles) (slot ∷ slots) = role_after_seed role slot ∷ all_labelled roles slots
all_labelled roles slots = []

-- the node tells each parent the forest
abbrev pub tells_label : Role → Option Payload
tells_label (Up f) = Some (Label f)
tells_label Unknown = None
tells_label (Down f) = None

-- and each child its colour in that forest
abbrev pub tells_colour : List ℕ → Role → Option Payload
tells_colour colours (Down f) = Some (Colour (slice_index colours f))
tells_colour colours Unknown = None
tells_colour colours (Up f) = None

-- and each neighbour of the forests merged so far the colour that it chose
abbrev pub tells_chosen : ℕ → ℕ → Role → Option Payload
tells_chosen f c role = if is_merged f role then Some (Chosen c) else None

-- nothing to anyone
abbrev pub silent : {A : Type 0} → List A → List (Option Payload)
silent xs = map (λ x. None) xs

-- every label that came is below n
abbrev pub LabelsBelow : ℕ → List (Option Payload) → Type 0
LabelsBelow n slots = (port f : ℕ) → at_port slots port ≡ Some (Label f) → f < n

-- each port to a parent brought a colour
abbrev pub HaveColours : List Role → List (Option Payload) → Type 0
HaveColours roles slots =
    (port f : ℕ) → port < length roles → slice_index_or roles port Unknown ≡ Up f
    → (c : ℕ) × (at_port slots port ≡ Some (Colour c))

-- What came to a node in a pulse of work: the ports name some of n forests, and those to a parent brought a colour.
pub record BringColours (n : ℕ) (roles : List Role) (slots : List (Option Payload)) : Type 0 where
  pub few : n ≤ MAX_DEGREE
  pub ports : length slots ≡ length roles
  pub known : HasForests n roles
  pub colours : HaveColours roles slots

-- whether a port leads to the parent in forest f
abbrev pub is_up : ℕ → Role → Bool
is_up f (Up g) = f == g
is_up f Unknown = false
is_up f (Down g) = false

-- the colour in a slot
abbrev pub colour_in : Option Payload → Option ℕ
colour_in (Some (Colour c)) = Some c
colour_in slot = None

-- the colour that came from the parent in forest f, if there is a parent
abbrev pub from_parent : ℕ → List Role → List (Option Payload) → Option ℕ
from_parent f (role ∷ roles) (slot ∷ slots) = if is_up f role then colour_in slot else from_parent f roles slots
from_parent f roles slots = None

-- the next colour in a forest
abbrev pub next_colour : Reduction → ℕ → ℕ → Option ℕ → ℕ
next_colour (Step k) own before parent = bit_by own parent
next_colour (Shift x) own before parent = shift_by own parent
next_colour (Drop x) own before parent = drop_by x own before parent

-- the colour that is kept beside it: the one before a shift
abbrev pub kept_colour : Reduction → ℕ → ℕ → ℕ
kept_colour (Step k) own before = before
kept_colour (Shift x) own before = own
kept_colour (Drop x) own before = before

-- What a turn asks for: the parent has another colour, and but for a bit step all colours are 0 to 5
-- and what is dropped is 3 to 5.
abbrev pub IsReady : Reduction → ℕ → ℕ → Option ℕ → Type 0
IsReady (Step k) own before parent = parent ≢ Some own
IsReady (Shift x) own before parent =
    (parent ≢ Some own) × (own < 6) × (before < 6) × IfSome parent (λ c. c < 6)
IsReady (Drop x) own before parent =
    (parent ≢ Some own) × (own < 6) × (before < 6) × IfSome parent (λ c. c < 6) × (3 ≤ x) × (x ≤ 5)

-- the same for all forests, by the colour of the parent in each
abbrev pub AreReady : Reduction → List ℕ → List ℕ → (ℕ → Option ℕ) → Type 0
AreReady reduction colours before parent =
    (f : ℕ) → f < length colours → IsReady reduction (slice_index colours f) (slice_index before f) (parent f)

abbrev pub turned_all : Reduction → List ℕ → List ℕ → (ℕ → Option ℕ) → List ℕ
turned_all reduction colours before parent =
    map (λ f. next_colour reduction (slice_index colours f) (slice_index before f) (parent f))
    (range_with_len 0 (length colours))

abbrev pub kept_all : Reduction → List ℕ → List ℕ → List ℕ
kept_all reduction colours before =
    map (λ f. kept_colour reduction (slice_index colours f) (slice_index before f)) (range_with_len 0 (length colours))

-- whether no work on the colours is left: the last drop is that of 3
abbrev pub is_last : Reduction → Bool
is_last (Step k) = false
is_last (Shift x) = false
is_last (Drop x) = x == 3

-- a node that knows its ports
abbrev pub with_roles : Node → List Role → Node
with_roles node roles = record node { roles = roles }

-- the work of Orient
abbrev pub with_orient : Node → List (Option Payload) → List Role → Node × List (Option Payload)
with_orient node inbox roles = (with_roles node roles, map tells_label roles)

-- the work on the colours, and each child told; after the last of it nothing is told
abbrev pub with_colours : Node → Reduction → List ℕ → List ℕ → Node × List (Option Payload)
with_colours node reduction colours before = (
  record node { colours = colours; before = before },
  if is_last reduction then silent node.roles else map (tells_colour colours) node.roles,
)

-- the next colours, by forest, and those kept beside them
abbrev pub next_colours : Node → Reduction → List (Option Payload) → List ℕ
next_colours node reduction inbox =
    map (λ f. next_colour reduction (slice_index node.colours f) (slice_index node.before f)
    (from_parent f node.roles inbox)) (range_with_len 0 node.sizes.forests)

abbrev pub next_kept : Node → Reduction → List ℕ
next_kept node reduction =
    map (λ f. kept_colour reduction (slice_index node.colours f) (slice_index node.before f))
    (range_with_len 0 node.sizes.forests)

-- The work of each phase: the node after it, and what is sent.
abbrev pub work_of : Node → Phase → List (Option Payload) → Node × List (Option Payload)
work_of node Greet inbox = (node, silent node.roles)
work_of node Orient inbox = with_orient node inbox (map (oriented_slot node.id (ids_in inbox)) inbox)
work_of node Seed inbox =
    let roles : List Role = all_labelled node.roles inbox in
    let colours : List ℕ = replicate node.sizes.forests node.id in
    (record node { roles = roles; colours = colours }, map (tells_colour colours) roles)
work_of node (Work reduction) inbox =
    with_colours node reduction (next_colours node reduction inbox) (next_kept node reduction)
work_of node (Merge f s) inbox =
    let here : Node = with_heard node s inbox in
    let turn : Bool = chooses here f s in
    let told : List (Option Payload) = map (tells_chosen f (free_for here)) node.roles in (
      record here { merged = if turn then free_for here else node.merged },
      if turn then (if suc s == steps node.sizes then silent node.roles else told) else silent node.roles,
    )
work_of node Halted inbox = (node, silent node.roles)

-- a refusal, or the node
abbrev pub answered : Option Refused → Node × List (Option Payload) → Result (Node × List (Option Payload)) Refused
answered (Some refused) node = Err refused
answered None node = Ok node

-- A pulse: the first refusal, or the work of the phase.
abbrev pub next : Node → ℕ → List (Option Payload) → Result (Node × List (Option Payload)) Refused
next node p inbox =
    let phase : Phase = phase_of node.sizes p in answered (refusal node phase inbox) (work_of node phase inbox)

-- the rounds of the colouring as a node program
abbrev pub colouring : Program Node Payload Refused
colouring = record { last = λ sizes again. last sizes; ports = ports; made = made; greet = greet; next = next }
