-- The merged entries of an outcome.
use Rattle.std.proofs.Common.{◌≡◌, ℕ, ◌<◌, true, List, refl, sym, ap, ◌∙◌, subst}
use Rattle.interference.specs.Net.{Net, IsNetwork, IsVertex, count_of, degree_of, neighbour_of, back_port_of}
use Rattle.node_api.specs.Program.{Program, last_pulse_on}
use Rattle.wires.specs.declared.stamped.Stamped.{Stamped}
use Rattle.wires.specs.StampedWires.{wires_of}
use Rattle.alpha_core.specs.View.{is_drained}
use Rattle.event_rule.specs.State.{State, node_of}
use Rattle.event_rule.specs.Whole.{IsStampedReplay, IsWholeReplay}
use Rattle.entries.specs.declared.rows.StampedRow.{StampedRow}
use Rattle.stamps.specs.Merged.{IsMerge}
use Rattle.outcomes.specs.MergedRuns.{HaveMet, IsReplayTo}
use Rattle.outcomes.proofs.Clocks.{met_replay}
use Rattle.outcomes.specs.Outcome.{Outcome, IsOutcome, entries_in, held_on, is_whole, link_in, link_of, node_in}
use Rattle.outcomes.proofs.Whole.{drained, whole_is}

module _ {S M E : Type 0} (program : Program S M E) (net : Net) (ok : IsNetwork net) (outcome : Outcome S M) where
  -- the nodes keep their stamps with the lists that their ends put and took, which are those of the links
  module _ (counters : ℕ → ℕ) (takens : ℕ → ℕ → List (Stamped M))
      (met : HaveMet program net (node_in program net outcome) counters (λ v i. (link_in outcome v i).put) takens (λ v i. (link_in outcome v i).held)
      (entries_in outcome))
      (takens_are : (v i : ℕ) → IsVertex net v → i < degree_of net v
      → takens (neighbour_of net v i) (back_port_of net v i) ≡ (link_in outcome v i).taken) where
    pub runs_merge : (rows : List (StampedRow M)) → IsMerge (count_of net) (entries_in outcome) rows
        → (to : IsReplayTo program net rows (node_in program net outcome) (λ v i. link_of (link_in outcome v i))) × IsStampedReplay program net rows to.last
    runs_merge rows merge =
        let run = met_replay program net ok (node_in program net outcome) counters _ takens _ (entries_in outcome) rows met merge in (
          record {
            last = run.0.last;
            replay = run.0.replay;
            nodes_are = run.0.nodes_are;
            links_are = λ v i vertex lt. run.0.links_are v i vertex lt
                ∙ ap (λ t. record { taken = wires_of t; held = held_on outcome v i }) (takens_are v i vertex lt);
          },
          run.1,
        )

  pub whole_replay : (capacity : ℕ) → IsOutcome program net capacity true outcome → is_whole outcome ≡ true
      → (rows : List (StampedRow M)) → IsMerge (count_of net) (entries_in outcome) rows
      → (last : State S M) × IsWholeReplay program net rows last × ((v : ℕ) → IsVertex net v → node_of program net last v ≡ node_in program net outcome v)
  whole_replay capacity is whole rows merge =
      let run = is.merged refl rows merge in
      let to = run.0 in (
        to.last,
        record {
          replay = run.1;
          whole = λ v vertex. (
            subst (λ n. is_drained (last_pulse_on program net) n.view ≡ true) (sym (to.nodes_are v vertex))
                (drained program net ok capacity true outcome is whole v vertex),
            λ i lt. ap (λ l. l.held) (to.links_are v i vertex lt) ∙ (whole_is program net ok capacity true outcome is whole).empty v i vertex lt,
          );
        },
        to.nodes_are,
      )
