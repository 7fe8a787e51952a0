use Rattle.std.proofs.Common.{◌≡◌, ◌++◌, take}
use Rattle.std.specs.Prelude.{flat_map}
use Rattle.plan_answers.specs.Texts.{triple_row}
use Rattle.plan_answers.proofs.forests_text.push_triples.Given as goal

abbrev pub invariant-loop-triple : goal.invariant-loop-triple
invariant-loop-triple l = l.text.items ≡ l.fn.text.items ++ flat_map triple_row (take l.triple-index l.triples)
