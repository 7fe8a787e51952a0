use Rattle.std.proofs.Common.{◌≡◌, ◌-◌, ◌≤◌, false}
use Rattle.recolouring.specs.Knowing.{raised}
use Rattle.recolouring.proofs.node.raised.Given as goal

abbrev pub invariant-loop-colour : goal.invariant-loop-colour
invariant-loop-colour l =
    record {
      low : l.colour ≤ l.fn.greatest;
      same : raised l.fn.chosen l.fn.barred l.fn.before (l.colour - l.fn.before) l.under
          ≡ raised l.fn.chosen l.fn.barred l.fn.before (l.fn.greatest - l.fn.before) false;
    }

abbrev pub decreases-loop-colour : goal.decreases-loop-colour
decreases-loop-colour l = l.colour
