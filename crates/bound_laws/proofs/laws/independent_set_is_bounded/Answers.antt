use Rattle.std.proofs.Common.{◌≡◌, ◌≤◌, arith}
use Rattle.interference.specs.Net.{forest_count_of, span_of}
use Rattle.colour_laws.proofs.Choices.{colours_within}
use Rattle.colour_laws.proofs.Forests.{has_forest, has_start}
use Rattle.colour_laws.proofs.Starts.{colour_at_last}
use Rattle.colour_laws.specs.Colours.{colours}
use Rattle.independent_set.specs.ProgramLaws.{coloured}
use Rattle.bound_laws.proofs.SetSent.{set-over}
use Rattle.bound_laws.proofs.laws.independent_set_is_bounded.Goals as goal

pub returns-clause-payloads : goal.returns-clause-payloads
returns-clause-payloads c = λ net ok v w edge.
    set-over net ok (c.rounds_end_with_a_maximal_independent_set.ensures.independent net ok)
    (λ u is_vertex.
    let is : (coloured net ok u).merged ≡ colours net u = (colour_at_last net ok (has_forest net ok) (has_start net ok) u is_vertex).0 in
    let low : colours net u ≤ span_of net = colours_within net (has_forest net ok) (forest_count_of net) u in
    omega (arith, is, low)) v w edge
