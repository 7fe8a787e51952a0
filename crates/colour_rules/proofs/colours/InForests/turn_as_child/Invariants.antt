use Rattle.std.proofs.Common.{◌≡◌, ◌-◌, ℕ, length, drop}
use Rattle.std.specs.Prelude.{false}
use Rattle.std.specs.FinSet.{contains}
use Rattle.colour_rules.specs.InForests.{AreTurned}
use Rattle.colour_rules.specs.Program.{from_parent}
use Rattle.colour_rules.proofs.colours.InForests.turn_as_child.Given as goal

abbrev pub invariant-loop-reader : goal.invariant-loop-reader
invariant-loop-reader l =
    record {
      same : l.reader.slots ≡ l.fn.inbox.slots;
      turned : AreTurned l.reduction l.id (λ f. from_parent f l.roles l.fn.inbox.slots) (contains l.heard) l.fn.self l.self;
      rest : (f : ℕ) → contains l.heard f ≡ false →
          from_parent f (drop l.reader.cursor l.roles) (drop l.reader.cursor l.fn.inbox.slots) ≡ from_parent f l.roles l.fn.inbox.slots;
    }

abbrev pub decreases-loop-reader : goal.decreases-loop-reader
decreases-loop-reader l = length l.reader.slots - l.reader.cursor
