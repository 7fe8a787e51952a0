use Rattle.stamps.proofs.StepsUp.{StepsUp}
use Rattle.stamps.proofs.rise.list_rises.Given as goal

abbrev pub invariant-loop-i : goal.invariant-loop-i
invariant-loop-i g l = StepsUp l.entries l.i
