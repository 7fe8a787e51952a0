use Rattle.distances.proofs.Classes.{classes}
use Rattle.distances.proofs.laws.components_are_classes.Goals as goal

pub returns : goal.returns
returns c = record { classes = λ net ok. classes net ok }
