use Rattle.forests.proofs.Parents.{parent-ranked}
use Rattle.forests.proofs.laws.parents_are_ranked.Goals as goal

pub returns : goal.returns
returns c = record {
  ranked = λ net ok f v w vertex. let ranked = parent-ranked net ok v vertex f w in
      (λ e. let r = ranked.0 e in ((vertex, r.0), r.1, r.2), λ h. ranked.1 (h.0.1, h.1, h.2));
}
