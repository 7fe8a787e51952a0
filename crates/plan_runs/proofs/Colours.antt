-- The colours of halted nodes.
use Rattle.std.proofs.Common.{◌≡◌, ℕ, ap, ◌∙◌}
use Rattle.std.proofs.lemmas.Bool.{and_parts, eqb-true}
use Rattle.interference.specs.Net.{Net, IsNetwork, IsVertex}
use Rattle.node_api.specs.Program.{last_pulse_on}
use Rattle.node_api.specs.Run.{state_at}
use Rattle.alpha_laws.proofs.Runs.{runs}
use Rattle.colour_rules.specs.Node as colour
use Rattle.colour_rules.specs.Program.{colouring}
use Rattle.colour_laws.specs.Colours.{colours}
use Rattle.colour_laws.proofs.Coloured.{are_colours}
use Rattle.colour_laws.proofs.Forests.{has_forest, has_start}
use Rattle.colour_laws.proofs.Rounds.{rounds_are_program}
use Rattle.colour_laws.proofs.Starts.{colour_at_last}
use Rattle.event_rule.proofs.KeptRuns.{reached_simulates}
use Rattle.event_rule.proofs.Maximal.{end_of}
use Rattle.plan_runs.specs.Coloured.{HaltedAreColoured, HaltedOutcomesAreColoured, HaltedRunsAreColoured, MaximalRunsAreColoured}

module _ (net : Net) (ok : IsNetwork net) where
  halted_are_coloured : HaltedAreColoured net
  halted_are_coloured nodes sent taken simulates halted = are_colours net ok (λ v. (nodes v).state.merged) exact
    where
      exact : (v : ℕ) → IsVertex net v → (nodes v).state.merged ≡ colours net v
      exact v vertex =
          let at_last : (nodes v).view.pulse ≡ last_pulse_on colouring net = eqb-true (nodes v).view.pulse (last_pulse_on colouring net) (halted v vertex) in
          let fits = simulates.fits v vertex in
          ap (λ (s : colour.Node). s.merged) (fits.state ∙ ap (λ p. state_at colouring net p v) at_last)
          ∙ (colour_at_last net ok (has_forest net ok) (has_start net ok) v vertex).0

  pub coloured : HaltedAreColoured net
  coloured = halted_are_coloured

  pub runs_coloured : HaltedRunsAreColoured net
  runs_coloured events state is halted =
      halted_are_coloured _ _ _ (reached_simulates ok (runs colouring rounds_are_program net ok) state (events, is)) halted

  pub outcomes_coloured : HaltedOutcomesAreColoured net
  outcomes_coloured capacity transcript outcome is halted = halted_are_coloured _ _ _ is.simulates halted

  pub maximal_coloured : MaximalRunsAreColoured net
  maximal_coloured events state is terminal =
      let end = end_of ok (runs colouring rounds_are_program net ok) events state is terminal in
      runs_coloured events state is (λ v vertex. (and_parts _ _ (and_parts _ _ (end.whole.drained v vertex)).0).0)
