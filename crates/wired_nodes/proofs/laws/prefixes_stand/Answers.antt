use Rattle.alpha_laws.proofs.Runs.{runs}
use Rattle.wired_nodes.proofs.Prefixes.{prefixes_stand}
use Rattle.wired_nodes.proofs.laws.prefixes_stand.Goals as goal

pub returns : goal.returns
returns g c = record { law = λ program laws net ok. prefixes_stand ok (runs program laws net ok) }
