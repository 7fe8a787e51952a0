use Rattle.alpha_laws.proofs.Runs.{runs}
use Rattle.alpha_laws.proofs.Claims.{simulates}
use Rattle.alpha_laws.proofs.laws.kept_links_simulate.Goals as goal

pub returns : goal.returns
returns g c = record { law = λ program laws net ok nodes sent taken held kept. simulates ok (runs program laws net ok) kept }
