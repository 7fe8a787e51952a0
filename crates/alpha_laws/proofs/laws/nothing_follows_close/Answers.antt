use Rattle.alpha_laws.proofs.Legals.{nothing-follows}
use Rattle.alpha_laws.proofs.laws.nothing_follows_close.Goals as goal

pub returns : goal.returns
returns g c = nothing-follows
