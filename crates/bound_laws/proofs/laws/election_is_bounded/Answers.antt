use Rattle.std.proofs.Common.{arith}
use Rattle.leader.specs.Election.{election}
use Rattle.bound_laws.proofs.Sent.{any-over}
use Rattle.bound_laws.proofs.laws.election_is_bounded.Goals as goal

pub returns-clause-payloads : goal.returns-clause-payloads
returns-clause-payloads c = λ net ok v w edge. omega (arith, any-over election net ok v w, any-over election net ok w v)
