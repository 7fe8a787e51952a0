use Rattle.std.proofs.Common.{refl}
use Rattle.colour_base.proofs.proper_has_no_loop.Goals as goal

pub returns : goal.returns
returns c parents colours proper v own = proper v v own refl
