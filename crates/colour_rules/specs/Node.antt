-- What a node of the colouring keeps, and which phase of the rounds a pulse is in.
use Rattle.std.specs.Prelude.{◌≡◌, ℕ, ◌+◌, ◌-◌, ◌*◌, ◌/◌, ◌%◌, ◌<◌, ◌≤◌, ◌==◌, ⊤, if◌then◌else◌, nat_le, nat_lt}
use Rattle.std.specs.Prelude.{List, filter, length, map, replicate, Option, Some, IfSome, slice_index, slice_index_or}
use Rattle.std.specs.Ordering.{nat_cmp}
use Rattle.std.specs.FinSet.{FinSet, contains, empty, from_list}
use Rattle.node_api.specs.Program.{Own, Sizes, span}
use Rattle.graph_limits.specs.declared.limits.TheConstants.{MAX_BARS}
use Rattle.interference.specs.declared.limits.TheConstants.{MAX_DEGREE}
use Rattle.forest_merge.specs.Free.{HasFree, least_free_colour}
use Rattle.forests.specs.Forests.{forest}
use Rattle.forests.specs.declared.numbering.Role.{Role}
use Rattle.forests.specs.declared.numbering.Role.TheVariants.{Unknown}
use Rattle.colour_rules.specs.declared.phase.Reduction.{Reduction}
use Rattle.colour_rules.specs.declared.phase.Reduction.TheVariants.{Step, Shift, Drop}
use Rattle.colour_rules.specs.declared.phase.Phase.{Phase}
use Rattle.colour_rules.specs.declared.phase.TheConstants.{FIRST_MERGE}
use Rattle.colour_rules.specs.declared.phase.Phase.TheVariants.{Greet, Orient, Seed, Work, Merge, Halted}
use Rattle.colour_rules.specs.declared.payload.Payload.{Payload}
use Rattle.colour_rules.specs.declared.payload.Payload.TheVariants.{Hello}

-- A node between two pulses.
pub record Node : Type 0 where
  pub id : ℕ
  pub sizes : Sizes
  -- by port, what the port is
  pub roles : List Role
  -- by forest, the node's colour there, and the one before the last shift
  pub colours : List ℕ
  pub before : List ℕ
  -- its merged colour before the forest that is being merged, and its merged colour now
  pub colour_before : ℕ
  pub merged : ℕ
  -- the colours that neighbours chose in that forest
  pub chosen : FinSet nat_cmp
  -- the colours of 0 to the span that are barred at the node
  pub barred : FinSet nat_cmp

-- those of these colours that are at most the limit
abbrev pub up_to : ℕ → List ℕ → FinSet nat_cmp
up_to limit bars = from_list (filter (λ c. nat_le c limit) bars)

-- a node before it greets: it knows no port, its merged colour is the least that isn't barred, every other colour is 0
abbrev pub made : Own → Node
made own =
    let barred : FinSet nat_cmp = up_to (span own.sizes) own.bars in
    record {
      id = own.id;
      sizes = own.sizes;
      roles = replicate own.degree Unknown;
      colours = replicate own.sizes.forests 0;
      before = replicate own.sizes.forests 0;
      colour_before = 0;
      merged = least_free_colour (span own.sizes) (contains barred);
      chosen = empty;
      barred = barred;
    }

-- pulse 0: every neighbour is told the identifier
abbrev pub greet : Node → Node × List (Option Payload)
greet node = (node, map (λ role. Some (Hello node.id)) node.roles)

-- how many ports a node has
abbrev pub ports : Node → ℕ
ports node = length node.roles

-- whether a role names one of n forests, if it is known
abbrev pub IsIn : ℕ → Role → Type 0
IsIn n role = IfSome (forest role) (λ f. f < n)

-- every role that is known names one of n forests
abbrev pub HasForests : ℕ → List Role → Type 0
HasForests n roles = (port : ℕ) → port < length roles → IsIn n (slice_index_or roles port Unknown)

-- every number of a list is below n
abbrev pub AreBelow : ℕ → List ℕ → Type 0
AreBelow n numbers = (i : ℕ) → i < length numbers → slice_index numbers i < n

-- the sizes of a schedule are within the limits
pub record IsSchedule (greatest_degree greatest_bars forests : ℕ) : Type 0 where
  pub degree_fits : greatest_degree ≤ MAX_DEGREE
  pub bars_fit : greatest_bars ≤ MAX_BARS
  pub forests_fit : forests ≤ MAX_DEGREE

-- what holds of a node's parts at every pulse
pub record IsNode (sizes : Sizes) (roles : List Role) (colours before : List ℕ) (colour_before merged : ℕ)
    (barred : FinSet nat_cmp) : Type 0 where
  pub degree_fits : sizes.greatest_degree ≤ MAX_DEGREE
  pub bars_fit : sizes.greatest_bars ≤ MAX_BARS
  pub forests_fit : sizes.forests ≤ MAX_DEGREE
  pub ports_fit : length roles ≤ MAX_DEGREE
  pub known : HasForests sizes.forests roles
  -- a colour in each forest, and one before the last shift, which is 0 to 5
  pub each_colour : length colours ≡ sizes.forests
  pub each_before : length before ≡ sizes.forests
  pub six : AreBelow 6 before
  pub before_low : colour_before ≤ span sizes
  pub merged_low : merged ≤ span sizes
  -- the barred colours leave one free
  pub free : HasFree (span sizes) (contains barred)

-- how many steps the merging of one forest takes: one for each pair of a three-colour and an old colour
abbrev pub steps : Sizes → ℕ
steps sizes = 3 * (span sizes + 1)

-- the last pulse: after the colouring of the forests, the steps of each
abbrev pub last : Sizes → ℕ
last sizes = FIRST_MERGE - 1 + sizes.forests * steps sizes

-- what is made of the colours at pulses 3 to 12: four bit steps, and a shift before each of the drops of 5, 4 and 3
abbrev pub reduction_of : ℕ → Reduction
reduction_of p =
    if nat_le p 6 then Step (p - 3) else if p == 7 then Shift 5 else if p == 8 then Drop 5
    else if p == 9 then Shift 4 else if p == 10 then Drop 4 else if p == 11 then Shift 3 else Drop 3

-- the phase of a pulse, which is looked at nowhere else
abbrev pub phase_of : Sizes → ℕ → Phase
phase_of sizes p =
    if p == 0 then Greet else if p == 1 then Orient else if p == 2 then Seed
    else if nat_lt p FIRST_MERGE then Work (reduction_of p)
    else if nat_le p (last sizes) then Merge ((p - FIRST_MERGE) / steps sizes) ((p - FIRST_MERGE) % steps sizes)
    else Halted

-- what the pulses of work make of colours: bit steps, and shifts and drops for the classes 5, 4 and 3
abbrev pub IsReduction : Reduction → Type 0
IsReduction (Step k) = k ≤ 3
IsReduction (Shift x) = (3 ≤ x) × (x ≤ 5)
IsReduction (Drop x) = (3 ≤ x) × (x ≤ 5)

-- a phase that there is: what is merged is a forest, at one of its steps
abbrev pub IsPhase : Sizes → Phase → Type 0
IsPhase sizes Greet = ⊤
IsPhase sizes Orient = ⊤
IsPhase sizes Seed = ⊤
IsPhase sizes (Work reduction) = IsReduction reduction
IsPhase sizes (Merge f s) = (f < sizes.forests) × (s < steps sizes)
IsPhase sizes Halted = ⊤
