use Rattle.std.proofs.Common.{take}
use Rattle.std.specs.Prelude.{All}
use Rattle.stamps.specs.Stamps.{Rises}
use Rattle.stamps.proofs.rise.rising.Given as goal

abbrev pub invariant-loop-list : goal.invariant-loop-list
invariant-loop-list g l = All (λ list. Rises list.items) (take l.list-index l.lists)
