use Rattle.std.proofs.Common.{arith}
use Rattle.forest_merge.proofs.Proper.{merge-unbarred_few, merge-within_few}
use Rattle.colour_laws.specs.Colours.{merging}
use Rattle.interference.specs.Net.{bars_of}
use Rattle.forest_merge.specs.Merge.{merge}
use Rattle.colour_laws.proofs.Choices.{few_taken, not_among}
use Rattle.colour_laws.proofs.Forests.{has_forest}
use Rattle.colour_laws.proofs.Proper.{merge_apart}
use Rattle.colour_laws.proofs.laws.merge_keeps_forests_proper.Goals as goal

pub returns-clause-proper : goal.returns-clause-proper
returns-clause-proper c = λ net ok f old apart v w edge low.
    merge_apart net ok f old (λ a b is_vertex near. apart a b (is_vertex, near)) v w edge.0 edge.1 (omega arith)

pub returns-clause-within : goal.returns-clause-within
returns-clause-within c = λ net ok f old v. merge-within_few (merging net f old) v (few_taken net (has_forest net ok) v)

pub returns-clause-unbarred : goal.returns-clause-unbarred
returns-clause-unbarred c = λ net ok f old v.
    not_among (bars_of net v) (merge (merging net f old) v) (merge-unbarred_few (merging net f old) v (few_taken net (has_forest net ok) v))
