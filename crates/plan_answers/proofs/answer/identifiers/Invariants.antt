use Rattle.std.proofs.Common.{◌≡◌, ◌-◌, drop, length}
use Rattle.plan_answers.specs.Answers.{identifiers_with}
use Rattle.plan_answers.proofs.answer.identifiers.Given as goal

abbrev pub invariant-loop-written : goal.invariant-loop-written
invariant-loop-written l = l.ids.items ≡ identifiers_with (drop (length l.fn.given - l.written) l.fn.given) l.fn.nodes
