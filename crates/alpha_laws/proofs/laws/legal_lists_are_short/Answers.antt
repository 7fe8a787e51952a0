use Rattle.node_api.specs.Program.{last_pulse_on}
use Rattle.link_rule.specs.Sent.{sends}
use Rattle.alpha_laws.proofs.Short.{short}
use Rattle.alpha_laws.proofs.laws.legal_lists_are_short.Goals as goal

pub returns : goal.returns
returns g c = record {
  law = λ program net v w ws legal. short (last_pulse_on program net) (sends program net v w) (sends program net w v) ws legal;
}
