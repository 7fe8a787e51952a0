-- Every outcome is a run, and one that is whole is a run to the end.
use Rattle.std.proofs.Common.{◌≡◌, true, sym, ap, ◌∙◌, subst}
use Rattle.std.proofs.Math.Logic.{∥∥₁_map}
use Rattle.interference.specs.Net.{Net, IsNetwork}
use Rattle.node_api.specs.Program.{Program, last_pulse_on}
use Rattle.node_api.specs.Laws.{IsProgram}
use Rattle.alpha_core.specs.View.{is_drained}
use Rattle.alpha_laws.proofs.Runs.{runs}
use Rattle.event_rule.proofs.KeptRuns.{reached_kept}
use Rattle.event_rule.specs.Endings.{IsWholeState}
use Rattle.event_rule.proofs.Deadlock.{whole_terminal}
use Rattle.event_rule.proofs.Maximal.{end_of}
use Rattle.event_rule.proofs.Room.{have_room}
use Rattle.outcomes.proofs.Whole.{drained, whole_is}
use Rattle.plan_runs.specs.Ran.{OutcomesAreRuns, WholeOutcomesAreEnds}

module _ {S M E : Type 0} (program : Program S M E) (laws : IsProgram program) (net : Net) (ok : IsNetwork net) where
  pub outcomes_run : OutcomesAreRuns program net
  outcomes_run capacity transcript outcome is =
      ∥∥₁_map is.is_run (λ ran. (ran, λ room some. have_room ok (runs program laws net ok) room some ran.events ran.last ran.is_run))

  pub whole_ends : WholeOutcomesAreEnds program net
  whole_ends capacity transcript outcome is whole = ∥∥₁_map is.is_run (λ ran.
      let rs = runs program laws net ok in
      let done : IsWholeState program net ran.last = record {
        drained = λ v vertex. subst (λ n. is_drained (last_pulse_on program net) n.view ≡ true) (sym (ran.nodes_are v vertex))
            (drained program net ok capacity transcript outcome is whole v vertex);
        empty = λ v i vertex lt. ap (λ l. l.held) (ran.links_are v i vertex lt)
            ∙ (whole_is program net ok capacity transcript outcome is whole).empty v i vertex lt;
      } in
      let terminal = whole_terminal ok rs (reached_kept ok rs ran.last (ran.events, ran.is_run)) done in
      (ran, terminal, end_of ok rs ran.events ran.last ran.is_run terminal))
