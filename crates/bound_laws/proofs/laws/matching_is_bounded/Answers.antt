use Rattle.bound_laws.proofs.MatchingSent.{matching-over}
use Rattle.bound_laws.proofs.laws.matching_is_bounded.Goals as goal

pub returns-clause-payloads : goal.returns-clause-payloads
returns-clause-payloads c = λ net ok v w edge. matching-over net ok v w edge
