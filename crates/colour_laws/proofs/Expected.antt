-- What each node is, and has told its neighbours, after each pulse of the synchronous run.
use Rattle.std.specs.Prelude.{◌≡◌, ◌≢◌, ℕ, zero, suc, ◌+◌, ◌*◌, ◌<◌, ◌≤◌, ◌==◌, Bool, false, List, [], ◌∷◌, ◌++◌, length, map, Option, Some, None}
use Rattle.std.specs.Prelude.{if◌then◌else◌, nat_lt, nat_le, count_by, filter}
use Rattle.std.specs.List.{range_with_len}
use Rattle.std.specs.Ordering.{nat_cmp}
use Rattle.std.specs.FinSet.{FinSet, empty, from_list}
use Rattle.interference.specs.Net.{Net, IsVertex, id_of, bars_of, degree_of, neighbours, neighbour_of, forest_count_of, greatest_bars_of, greatest_degree_of}
use Rattle.interference.specs.Net.{span_of}
use Rattle.node_api.specs.Program.{sizes_of}
use Rattle.forests.specs.Forests.{number, parent, role_of}
use Rattle.colour_laws.specs.Colours.{three, colours_after}
use Rattle.colour_base.specs.Forest.{at_parent}
use Rattle.cole_vishkin.specs.Digits.{HasDigits}
use Rattle.cole_vishkin.specs.declared.step.TheConstants.{IDENTIFIER_DIGITS}
use Rattle.forest_merge.specs.Free.{is_among}
use Rattle.colour_rules.specs.declared.payload.Payload.{Payload}
use Rattle.forests.specs.declared.numbering.Role.TheVariants.{Unknown, Up, Down}
use Rattle.colour_rules.specs.Node.{Node, reduction_of, steps, up_to}
use Rattle.colour_rules.specs.Program.{next_colour, kept_colour, tells_colour, tells_chosen}

-- whether a colour is among these
abbrev pub among : ℕ → List ℕ → Bool
among c colours = is_among colours c

-- the colours in forest f, and those kept as before, q pulses after Seed
unfoldable pub stages : Net → ℕ → ℕ → (ℕ → ℕ) × (ℕ → ℕ)
stages net f zero = (id_of net, λ v. 0)
stages net f (suc q) = (
  (λ v. next_colour (reduction_of (q + 3)) ((stages net f q).0 v) ((stages net f q).1 v) (at_parent (parent net f) (stages net f q).0 v)),
  λ v. kept_colour (reduction_of (q + 3)) ((stages net f q).0 v) ((stages net f q).1 v),
)

abbrev pub by_forest : Net → (ℕ → ℕ) → List ℕ
by_forest net c = map c (range_with_len 0 (forest_count_of net))

-- the colours of 0 to the span that are barred at v
abbrev pub barred_of : Net → ℕ → FinSet nat_cmp
barred_of net v = up_to (span_of net) (bars_of net v)

-- a node q pulses after Seed, and what it tells w
abbrev pub state_while_reducing : Net → ℕ → ℕ → Node
state_while_reducing net q v =
    record {
      id = id_of net v;
      sizes = sizes_of net;
      roles = map (role_of net v) (neighbours net v);
      colours = by_forest net (λ f. (stages net f q).0 v);
      before = by_forest net (λ f. (stages net f q).1 v);
      colour_before = 0;
      merged = colours_after net 0 v;
      chosen = empty;
      barred = barred_of net v;
    }

abbrev pub tells : Net → ℕ → ℕ → ℕ → Option Payload
tells net q v w = if q == 10 then None else tells_colour (by_forest net (λ f. (stages net f q).0 v)) (role_of net v w)

-- Merging.
-- the step at which v chooses in forest f
abbrev pub step_in : Net → ℕ → ℕ → ℕ
step_in net f v = three (parent net f) (id_of net) v * (span_of net + 1) + colours_after net f v

-- the neighbours whose choice v has heard of before step s of forest f chooses
abbrev pub is_heard : Net → ℕ → ℕ → ℕ → ℕ → Bool
is_heard net f s v w = if nat_le (number net v w) f then nat_lt (step_in net f w) s else false

abbrev pub heard : Net → ℕ → ℕ → ℕ → List ℕ
heard net f s v = map (colours_after net (suc f)) (filter (is_heard net f s v) (neighbours net v))

abbrev pub merged_by : Net → ℕ → ℕ → ℕ → ℕ
merged_by net f s v = if nat_lt (step_in net f v) s then colours_after net (suc f) v else colours_after net f v

-- a node at step s of forest f when it has heard, and when it is done; and what it tells w
abbrev pub state_before_choice : Net → ℕ → ℕ → ℕ → Node
state_before_choice net f s v =
    record {
      id = id_of net v;
      sizes = sizes_of net;
      roles = map (role_of net v) (neighbours net v);
      colours = by_forest net (λ g. (stages net g 10).0 v);
      before = by_forest net (λ g. (stages net g 10).1 v);
      colour_before = colours_after net f v;
      merged = merged_by net f s v;
      chosen = from_list (heard net f s v);
      barred = barred_of net v;
    }

abbrev pub state_after_choice : Net → ℕ → ℕ → ℕ → Node
state_after_choice net f s v = record (state_before_choice net f s v) { merged = merged_by net f (suc s) v }

abbrev pub chose : Net → ℕ → ℕ → ℕ → ℕ → Option Payload
chose net f s v w = if step_in net f v == s then (if suc s == steps (sizes_of net) then None else tells_chosen f (colours_after net (suc f) v)
    (role_of net v w)) else None

-- What the forests of a network keep.
pub record IsForest (net : Net) : Type 0 where
  pub known : (v k : ℕ) → IsVertex net v → k < degree_of net v → role_of net v (neighbour_of net v k) ≢ Unknown
  pub up : (v k f : ℕ) → IsVertex net v → k < degree_of net v → role_of net v (neighbour_of net v k) ≡ Up f → (parent net f v ≡ Some (neighbour_of net v k)) ×
      (role_of net (neighbour_of net v k) v ≡ Down f) × (f < forest_count_of net)
  pub above : (f v w : ℕ) → IsVertex net v → parent net f v ≡ Some w → (k : ℕ) × (k < degree_of net v) × (role_of net v (neighbour_of net v k) ≡ Up f)
  pub down : (v k f : ℕ) → IsVertex net v → k < degree_of net v → role_of net v (neighbour_of net v k) ≡ Down f →
      (role_of net (neighbour_of net v k) v ≡ Up f) × (f < forest_count_of net)
  pub apart : (f v w : ℕ) → parent net f v ≡ Some w → id_of net v ≢ id_of net w
  pub small : HasDigits IDENTIFIER_DIGITS (id_of net)
  pub few : (v : ℕ) → degree_of net v ≤ greatest_degree_of net
  pub few_bars : (v : ℕ) → length (bars_of net v) ≤ greatest_bars_of net

-- no number of the list is among those before it
abbrev pub Fresh : List ℕ → List ℕ → Type 0
Fresh earlier [] = Unit {0}
Fresh earlier (n ∷ ns) = (among n earlier ≡ false) × Fresh (earlier ++ (n ∷ [])) ns

pub record IsOriented (net : Net) : Type 0 where
  pub fresh : (v : ℕ) → IsVertex net v → Fresh [] (map (id_of net) (neighbours net v))
  pub not_own : (v k : ℕ) → IsVertex net v → k < degree_of net v → id_of net (neighbour_of net v k) ≢ id_of net v
  pub few_higher : (v : ℕ) → IsVertex net v → count_by (nat_lt (id_of net v)) (map (id_of net) (neighbours net v)) ≤ forest_count_of net
