-- Numbers that are the colours of a network are proper.
use Rattle.std.proofs.Common.{◌≡◌, ℕ, ◌≤◌, sym, ◌∙◌, subst}
use Rattle.std.proofs.lemmas.List.{get_or_default}
use Rattle.interference.specs.Net.{Net, IsBarred, IsNetwork, IsVertex, IsEdge, neighbours, forest_count_of, span_of}
use Rattle.colour_laws.specs.Colours.{AreColours, colours}
use Rattle.colour_laws.proofs.Choices.{colours_unbarred, colours_within}
use Rattle.colour_laws.proofs.Forests.{has_forest}
use Rattle.colour_laws.proofs.Proper.{colours_proper}

-- a neighbour is a vertex
neighbour_is : (net : Net) → IsNetwork net → (v w : ℕ) → IsEdge net v w → IsVertex net w
neighbour_is net ok v w (vertex, (port, lt, is)) = subst (λ u. IsVertex net u) (get_or_default (neighbours net v) port 0 w lt ∙
    is) (ok.vertices v port vertex lt)

pub are_colours : (net : Net) → IsNetwork net → (colour : ℕ → ℕ) → ((v : ℕ) → IsVertex net v → colour v ≡ colours net v) → AreColours net colour
are_colours net ok colour exact = record {
  exact = exact;
  proper = λ v w edge same.
      colours_proper net ok v w edge.0 edge.1 (sym (exact v edge.0) ∙ same ∙ exact w (neighbour_is net ok v w edge));
  within = λ v vertex. subst (λ c. c ≤ span_of net) (sym (exact v vertex)) (colours_within net (has_forest net ok) (forest_count_of net) v);
  unbarred = λ v vertex barred. colours_unbarred net (has_forest net ok) (forest_count_of net) v
      (subst (λ c. IsBarred net v c) (exact v vertex) barred);
}
