use Rattle.alpha_laws.proofs.Legals.{legal-in_order}
use Rattle.alpha_laws.proofs.laws.legal_lists_are_in_order.Goals as goal

pub returns : goal.returns
returns g c = legal-in_order
