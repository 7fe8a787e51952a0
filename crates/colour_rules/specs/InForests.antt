-- The colours of a node in the forests, as it writes them down.
use Rattle.std.specs.Prelude.{◌≡◌, ℕ, ◌<◌, Bool, if◌then◌else◌, List, length, map, Option, slice_index_or}
use Rattle.colour_rules.specs.declared.phase.Reduction.{Reduction}
use Rattle.colour_rules.specs.declared.colours.InForest.{InForest}
use Rattle.colour_rules.specs.declared.colours.InForests.{InForests}
use Rattle.colour_rules.specs.Program.{IsReady, kept_colour, next_colour}

-- the colour in a forest: the identifier where the forests are seeded, and else the one that is written down
abbrev pub colour_by : ℕ → Bool → InForest → ℕ
colour_by id is_seeded one = if is_seeded then id else one.colour

abbrev pub colours_by : ℕ → Bool → List InForest → List ℕ
colours_by id is_seeded each = map (colour_by id is_seeded) each

-- the colours before the last shift
abbrev pub befores_of : List InForest → List ℕ
befores_of each = map (λ one. one.before) each

-- the colour in each forest
abbrev pub colours_in : ℕ → InForests → List ℕ
colours_in id all = colours_by id all.is_seeded all.each.items

-- and the one before the last shift
abbrev pub before_in : InForests → List ℕ
before_in all = befores_of all.each.items

-- what is written down of a forest at first
abbrev pub blank : InForest
blank = record { colour = 0; before = 0 }

-- what is written down of forest f
abbrev pub in_forest : InForests → ℕ → InForest
in_forest all f = slice_index_or all.each.items f blank

-- whether forest f may take the next colour, by the colour of the parent
abbrev pub IsReadyAt : Reduction → ℕ → Option ℕ → InForests → ℕ → Type 0
IsReadyAt reduction id parent all f =
    let one : InForest = in_forest all f in IsReady reduction (colour_by id all.is_seeded one) one.before parent

-- what is written down of the next colour in a forest
abbrev pub turned_in : Reduction → ℕ → Bool → Option ℕ → InForest → InForest
turned_in reduction id is_seeded parent one =
    let own : ℕ = colour_by id is_seeded one in
    record { colour = next_colour reduction own one.before parent; before = kept_colour reduction own one.before }

-- Some forests have taken the next colour, by the colours of the parents; the others are as before.
pub record AreTurned (reduction : Reduction) (id : ℕ) (parent : ℕ → Option ℕ) (turns : ℕ → Bool) (old new : InForests)
    : Type 0 where
  pub seeded : new.is_seeded ≡ old.is_seeded
  pub size : length new.each.items ≡ length old.each.items
  pub each : (f : ℕ) → f < length old.each.items
      → in_forest new f
      ≡ (if turns f then turned_in reduction id old.is_seeded (parent f) (in_forest old f) else in_forest old f)
