use Rattle.node_api.proofs.Repeated.{node_at-repeated}
use Rattle.node_api.proofs.laws.repeating_changes_no_pulse.Goals as goal

pub returns : goal.returns
returns g c = record { nodes = λ program again net p v. node_at-repeated program again net p v }
