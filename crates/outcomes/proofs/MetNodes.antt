-- Nodes that keep their stamps are written, once their ends have met.
use Rattle.std.proofs.Common.{◌≡◌, ℕ, List, refl, sym, ap, ◌∙◌, subst}
use Rattle.std.proofs.lemmas.List.{map-append}
use Rattle.interference.specs.Net.{Net, IsNetwork, IsVertex, neighbour_of, back_port_of}
use Rattle.interference.proofs.Neighbours.{at-back_port}
use Rattle.node_api.specs.Program.{Program}
use Rattle.alpha_core.specs.View.{Node}
use Rattle.alpha_laws.proofs.Across.{over}
use Rattle.wires.specs.declared.stamped.Stamped.{Stamped}
use Rattle.wired_nodes.specs.Written.{takes_in}
use Rattle.stamps.specs.Keeps.{came_to}
use Rattle.wires.specs.StampedWires.{wires_of}
use Rattle.entries.specs.declared.rows.StampedEntry.{StampedEntry}
use Rattle.stamps.specs.Stamps.{Carries, Rises, taken_in}
use Rattle.entries.specs.Rows.{bare_of}
use Rattle.stamps.proofs.Local.{carried, rises}
use Rattle.outcomes.specs.MergedRuns.{AreWritten, HaveMet, links_of}
use Rattle.wired_nodes.proofs.StampedEntries.{wires_taken}

module _ {S M E : Type 0} (program : Program S M E) (net : Net) (ok : IsNetwork net) (nodes : ℕ → Node S M) (counters : ℕ → ℕ)
    (puts takens held : ℕ → ℕ → List (Stamped M)) (wrote : ℕ → List (StampedEntry M)) (met : HaveMet program net nodes counters puts takens held wrote) where
  pub met_written : AreWritten program net nodes (links_of net takens held) wrote × ((v : ℕ) → IsVertex net v → Rises (wrote v))
  met_written = (
    record {
      written = λ v vertex.
          let is = met.written v vertex in
          record {
            run = is.run;
            puts_are = λ i lt. is.puts_are i lt ∙ ap (λ l. wires_of l) (met.splits v i vertex lt)
                ∙ map-append (λ x. x.wire) (takens (neighbour_of net v i) (back_port_of net v i)) (held v i);
            takes_are = λ i lt. is.takes_are i lt ∙ sym (over net ok (λ u k. wires_of (takens u k)) v i vertex lt);
            pulses_are = is.pulses_are;
          };
      carried = λ v i vertex lt.
          let w = neighbour_of net v i in
          let j = back_port_of net v i in
          let vertex' = ok.vertices v i vertex lt in
          let lt' = ok.symmetric v i vertex lt in
          let back : neighbour_of net w j ≡ v = at-back_port net ok v i vertex lt in
          subst (λ l. Carries l (taken_in (wrote w) v) (wires_of (held v i))) (sym ((met.keeps v vertex).put_are i lt ∙ met.splits v i vertex lt))
          (carried (came_to net w (takens w)) v (wrote w) (takens w j) (held v i) (met.keeps w vertex').stamped refl
          (wires_taken (wrote w) v ∙ ap (λ u. takes_in (bare_of (wrote w)) u) (sym back) ∙ (met.written w vertex').takes_are j lt'));
    },
    λ v vertex. rises (came_to net v (takens v)) (wrote v) (met.keeps v vertex).stamped,
  )
