-- What the merged entries of an outcome are if it is whole.
use Rattle.std.specs.Prelude.{◌≡◌, ℕ, true, List}
use Rattle.interference.specs.Net.{Net, IsVertex, count_of}
use Rattle.node_api.specs.Program.{Program}
use Rattle.event_rule.specs.State.{State, node_of}
use Rattle.event_rule.specs.Whole.{IsWholeReplay}
use Rattle.entries.specs.declared.rows.StampedRow.{StampedRow}
use Rattle.stamps.specs.Merged.{IsMerge}
use Rattle.outcomes.specs.Outcome.{Outcome, IsOutcome, entries_in, is_whole, node_in}

-- With a transcript, the entries of all nodes, in the order of their stamps and then of their vertices, are a whole
-- replay, which leads to the nodes of the outcome.
abbrev pub WholeOutcomesReplay : {S M E : Type 0} → Program S M E → Net → Type 0
WholeOutcomesReplay {S} {M} program net =
    (capacity : ℕ) (outcome : Outcome S M) → IsOutcome program net capacity true outcome → is_whole outcome ≡ true
    → (rows : List (StampedRow M)) → IsMerge (count_of net) (entries_in outcome) rows
    → (last : State S M) × IsWholeReplay program net rows last
    × ((v : ℕ) → IsVertex net v → node_of program net last v ≡ node_in program net outcome v)
