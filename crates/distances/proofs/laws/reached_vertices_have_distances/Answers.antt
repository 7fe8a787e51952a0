use Rattle.distances.proofs.Walks.{distance-to}
use Rattle.distances.proofs.Chains.{distance-below}
use Rattle.distances.proofs.laws.reached_vertices_have_distances.Goals as goal

pub returns : goal.returns
returns c = record {
  distance = λ net ok v w vertex reached.
      let (d, is) = distance-to net reached.0 v w reached.1 in
      (d, is, distance-below net ok w d v vertex is);
}
