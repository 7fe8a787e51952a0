use Rattle.std.proofs.Common.{◌-◌, length}
use Rattle.node_api.proofs.Finding.{IsRest}
use Rattle.node_api.proofs.marks.Marks.first_from.Given as goal

abbrev pub invariant-loop-rest : goal.invariant-loop-rest
invariant-loop-rest l = IsRest l.self-inside.words l.from l.word l.rest

abbrev pub decreases-loop-rest : goal.decreases-loop-rest
decreases-loop-rest l = length l.self-inside.words - l.word
