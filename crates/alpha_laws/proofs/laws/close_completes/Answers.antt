use Rattle.alpha_laws.proofs.Legals.{close-completes}
use Rattle.alpha_laws.proofs.laws.close_completes.Goals as goal

pub returns : goal.returns
returns g c = close-completes
