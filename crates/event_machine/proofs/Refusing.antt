-- An event that names no vertex or port of the network is refused, and no refusal of an event is `Memory`.
use Rattle.std.proofs.Common.{◌≡◌, ℕ, false, Ok, Err, ap}
use Rattle.std.specs.Prelude.{◌≢◌, if◌then◌else◌}
use Rattle.interference.specs.Net.{Net}
use Rattle.node_api.specs.Program.{Program, last_pulse_on}
use Rattle.alpha_core.specs.View.{port_at, can_pulse}
use Rattle.event_rule.specs.declared.event.Event.TheVariants.{Pulse, Put, Take}
use Rattle.event_rule.specs.declared.refused.StepRefused.TheVariants.{NotReady, NothingToPut, LinkEmpty, NoSuch, Memory}
use Rattle.event_rule.specs.State.{State, node_of, link_to}
use Rattle.event_rule.specs.Step.{is_vertex, has_port, after_pulse, after_put, after_take, step}

module _ {S M E : Type 0} (program : Program S M E) (net : Net) (state : State S M) (v : ℕ) where
  -- there is no such vertex
  pub pulse_no_such : is_vertex net v ≡ false → step program net state (Pulse v) ≡ Err NoSuch
  pulse_no_such missing =
      let node = node_of program net state v in
      ap (λ b. if b then (if can_pulse (last_pulse_on program net) node.view then Ok (after_pulse program net state v node)
      else Err NotReady) else Err NoSuch) missing

  -- there is no such port
  pub put_no_such : (i : ℕ) → has_port net v i ≡ false → step program net state (Put v i) ≡ Err NoSuch
  put_no_such i missing =
      let node = node_of program net state v in
      ap (λ b. if b then after_put state v i node (port_at node.view i).out else Err NoSuch) missing

  pub take_no_such : (i : ℕ) → has_port net v i ≡ false → step program net state (Take v i) ≡ Err NoSuch
  take_no_such i missing =
      let node = node_of program net state v in
      ap (λ b. if b then after_take (last_pulse_on program net) net state v i node (link_to net state.links v i).held else Err NoSuch)
      missing

-- each of them is another refusal than `Memory`
pub not_ready-isnt_memory : NotReady ≢ Memory
not_ready-isnt_memory e = cc

pub nothing_to_put-isnt_memory : NothingToPut ≢ Memory
nothing_to_put-isnt_memory e = cc

pub link_empty-isnt_memory : LinkEmpty ≢ Memory
link_empty-isnt_memory e = cc

pub no_such-isnt_memory : NoSuch ≢ Memory
no_such-isnt_memory e = cc
