use Rattle.std.proofs.Common.{refl}
use Rattle.alpha_core.proofs.payloads.Payloads.new.Goals as goal

pub invariant_of-result : goal.invariant_of-result
invariant_of-result g c = λ _. refl

pub returns : goal.returns
returns g c = record { empty = refl }
