use Rattle.std.proofs.Common.{◌≡◌, ℕ, ◌+◌, ◌*◌, ◌≤◌, arith}
use Rattle.interference.specs.Counts.{edge_count_of}
use Rattle.node_api.specs.Program.{last_pulse_on}
use Rattle.alpha_laws.specs.Counts.{payloads_sent}
use Rattle.outcomes.specs.Counts.{payloads_put, wires_put}
use Rattle.outcomes.proofs.Counts.{counted}
use Rattle.bound_laws.proofs.Sent.{payloads-few}
use Rattle.bound_laws.proofs.laws.whole_outcomes_put_few_wires.Goals as goal

few : (wires payloads sent edges each last : ℕ) → wires ≡ 2 * payloads + 2 * edges * (last + 1) → payloads ≡ sent → sent ≤ edges * each
    → wires ≤ edges * (2 * (each + last + 1))
few wires payloads sent edges each last are same low = omega (arith, are, same, low)

pub returns : goal.returns
returns g c = record {
  law = λ program net ok each low capacity transcript outcome is whole.
      let count = counted program net ok capacity transcript outcome is whole in
      few (wires_put outcome) (payloads_put outcome) (payloads_sent program net) (edge_count_of net) each (last_pulse_on program net)
      count.wires count.payloads (payloads-few program net ok each low);
}
