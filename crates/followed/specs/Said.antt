-- Payloads of a first program and of the one that follows it, and their texts.
use Rattle.std.specs.Prelude.{◌≡◌, ℕ, List, map, Option, Some, None}
use Rattle.std.specs.Option.{option_or}
use Rattle.node_api.specs.Boxes.{fold_slots}
use Rattle.followed.specs.declared.said.Said.{Said}
use Rattle.followed.specs.declared.said.Said.TheVariants.{First, Then}

-- a function of payloads of both, by what it is on each
abbrev pub of_either : {A B C : Type 0} → (A → C) → (B → C) → Said A B → C
of_either f g (First x) = f x
of_either f g (Then y) = g y

-- A payload of both is one of its own type; and if it isn't of the first program, its text is none of that.
abbrev pub is_apart : {A B : Type 0} → (A → Type 0) → (B → Type 0) → (List ℕ → ℕ → Option A) → (B → List ℕ) → (B → ℕ)
    → Said A B → Type 0
is_apart first other read word number (First x) = first x
is_apart first other read word number (Then y) = other y × (read (word y) (number y) ≡ None)

-- what a port of both is told, by what the first program tells it
abbrev pub said : {A B : Type 0} → Option A → Option (Said A B)
said None = None
said (Some x) = Some (First x)

-- what the first program hears at a port of both
abbrev pub first_of : {A B : Type 0} → Option (Said A B) → Option A
first_of None = None
first_of (Some (First x)) = Some x
first_of (Some (Then y)) = None

abbrev pub firsts : {A B : Type 0} → List (Option (Said A B)) → List (Option A)
firsts slots = map first_of slots

-- the port of a payload that isn't of the first program
abbrev pub then_port : {A B : Type 0} → ℕ → Said A B → Option ℕ
then_port port (First x) = None
then_port port (Then y) = Some port

abbrev pub and_misplaced : {A B : Type 0} → Option ℕ → ℕ → Said A B → Option ℕ
and_misplaced found port x = option_or found (then_port port x)

-- the first port at which another payload than the first program's came
abbrev pub misplaced : {A B : Type 0} → List (Option (Said A B)) → Option ℕ
misplaced slots = fold_slots and_misplaced None 0 slots

-- a node of the first program, and what both are told by it
abbrev pub told_by : {S A B : Type 0} → S × List (Option A) → S × List (Option (Said A B))
told_by node = (node.0, map said node.1)

-- the payload of a text: of the first program if it is one, else of the other
abbrev pub then_of : {A B : Type 0} → Option A → Option B → Option (Said A B)
then_of (Some x) other = Some (First x)
then_of None None = None
then_of None (Some y) = Some (Then y)

abbrev pub read_first : {A B : Type 0} → (List ℕ → ℕ → Option A) → (List ℕ → ℕ → Option B) → List ℕ → ℕ
    → Option (Said A B)
read_first read other word number = then_of (read word number) (other word number)
