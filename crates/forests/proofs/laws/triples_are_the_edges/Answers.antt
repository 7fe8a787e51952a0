use Rattle.forests.proofs.Triples.{triple-from, triple-in, triples-ascend}
use Rattle.forests.proofs.laws.triples_are_the_edges.Goals as goal

pub returns-clause-edges : goal.returns-clause-edges
returns-clause-edges c = λ net ok f v w. (triple-from net f v w, λ h. triple-in net ok f v w h.0 h.1)

pub returns-clause-ascending : goal.returns-clause-ascending
returns-clause-ascending c = triples-ascend
