-- The table of what may come, and the first phases, row by row.
use Rattle.std.specs.Prelude.{◌≡◌, ℕ, List, [], ◌∷◌, Option, Some, None}
use Rattle.forests.specs.declared.numbering.Role.TheVariants.{Unknown, Up, Down}
use Rattle.colour_rules.specs.declared.payload.Payload.{Payload}
use Rattle.colour_rules.specs.declared.payload.Payload.TheVariants.{Hello, Label, Colour, Chosen}
use Rattle.colour_rules.specs.declared.phase.Reduction.TheVariants.{Step, Shift, Drop}
use Rattle.colour_rules.specs.declared.phase.Phase.{Phase}
use Rattle.colour_rules.specs.declared.phase.Phase.TheVariants.{Greet, Orient, Seed, Work}
use Rattle.colour_rules.specs.declared.rules.TheConstants.{WRONG_KIND, WRONG_ROLE, AFTER_HALT}
use Rattle.colour_rules.specs.Table.{cell}

-- what a payload breaks from a port that is unknown, leads to a parent, and leads to a child
abbrev pub Row : Type 0
Row = Option ℕ × Option ℕ × Option ℕ

abbrev pub due : Option ℕ
due = None

abbrev pub wrong_role : Option ℕ
wrong_role = Some WRONG_ROLE

abbrev pub wrong_kind : Row
wrong_kind = (Some WRONG_KIND, Some WRONG_KIND, Some WRONG_KIND)

abbrev pub after_halt : Row
after_halt = (Some AFTER_HALT, Some AFTER_HALT, Some AFTER_HALT)

abbrev pub row : Phase → Payload → ℕ → Row
row phase payload g = (cell phase Unknown payload, cell phase (Up g) payload, cell phase (Down g) payload)

-- the rows of a phase, by the kind of the payload: identifier, label, colour, chosen colour
abbrev pub AreRows : Phase → Row → Row → Row → Row → Type 0
AreRows phase hello label colour chosen =
    (n g : ℕ) → (row phase (Hello n) g ≡ hello) × (row phase (Label n) g ≡ label)
    × (row phase (Colour n) g ≡ colour) × (row phase (Chosen n) g ≡ chosen)

-- the phases of the pulses before the merging
abbrev pub first_phases : List Phase
first_phases =
    Greet ∷ Orient ∷ Seed ∷ Work (Step 0) ∷ Work (Step 1) ∷ Work (Step 2) ∷ Work (Step 3)
    ∷ Work (Shift 5) ∷ Work (Drop 5) ∷ Work (Shift 4) ∷ Work (Drop 4) ∷ Work (Shift 3) ∷ Work (Drop 3) ∷ []
