use Rattle.stamps.specs.Keeps.{came_to}
use Rattle.stamps.proofs.Local.{rises}
use Rattle.stamps.proofs.laws.kept_stamps_rise.Goals as goal

pub returns : goal.returns
returns g c = record {
  law = λ net v counter puts takens entries kept. rises (came_to net v takens) entries kept.stamped;
}
