-- The nodes that were gathered keep their stamps with the lists of the links, and are written down, and their ends have met: so their
-- stamps rise, and their entries in order are one run (`laws`).
use Rattle.std.proofs.Common.{◌≡◌, ℕ, ◌-◌, ◌<◌, List, ◌++◌, map, get_or, sym, ap, ◌∙◌}
use Rattle.std.proofs.Math.Path.{transport}
use Rattle.std.specs.Prelude.{Bool, IsTrue, Option}
use Rattle.interference.specs.Net.{Net, IsVertex, degree_of, neighbour_of, back_port_of}
use Rattle.node_api.specs.Program.{Program}
use Rattle.wires.specs.declared.stamped.Stamped.{Stamped}
use Rattle.wires.specs.StampedWires.{wires_of}
use Rattle.alpha_core.specs.View.{Alpha}
use Rattle.wired_nodes.specs.declared.aside.Aside.{Aside}
use Rattle.stamps.specs.Keeps.{KeepsStamps}
use Rattle.entries.specs.declared.rows.StampedEntry.{StampedEntry}
use Rattle.entries.specs.Rows.{bare_of}
use Rattle.wired_nodes.specs.Node.{by_port}
use Rattle.wired_nodes.specs.Written.{IsTranscript}
use Rattle.outcomes.specs.MergedRuns.{HaveMet}
use Rattle.outcomes.specs.Outcome.{Outcome, entries_in, link_in, node_in, put_by, taken_by}
use Rattle.port_rows.proofs.Rows.{get_map}
use Rattle.outcomes.proofs.Linked.{AreGathered, entries_at, here, put_is, puts_at, puts_here, split_is, taken_here, taken_is, takens_at, takens_here}

module _ {S M E A X Y : Type 0} {program : Program S M E} {net : Net} {nodes : List A} {vertex : A → ℕ} {alpha : A → Alpha S M}
    {aside : A → Option (Aside M)} {counter : A → ℕ} {puts : A → List X} {put : X → List (Stamped M)} {takes : A → List Y} {taken : Y → List (Stamped M)}
    {entries : A → List (StampedEntry M)} {crossed : List (List Y)} {transcript : Bool} {outcome : Outcome S M}
    (are : AreGathered program net nodes vertex alpha aside counter puts put takes taken entries crossed transcript outcome) where
  abbrev pub counters : ℕ → ℕ
  counters v = get_or (map counter nodes) (v - 1) 0

  -- the counter of a node, and the stamps that it keeps with the lists that its ends put and took
  pub counter_is : (v : ℕ) (is : IsVertex net v) → counter (here are v is).0 ≡ counters v
  counter_is v is = let n = here are v is in sym (get_map counter nodes (v - 1) n.0 0 n.1)

  pub keeps_at : IsTrue transcript → (v : ℕ) → IsVertex net v
      → KeepsStamps net v (counters v) (λ i. (link_in outcome v i).put) (by_port (takens_at are v)) (entries_in outcome v)
  keeps_at on v is =
      let n = here are v is in
      let kept : KeepsStamps net v (counters v) (by_port (puts_at are v)) (by_port (takens_at are v)) (entries_in outcome v) =
      transport (λ k. KeepsStamps net (n.2 k) (counter_is v is k) (by_port (puts_here are v is k))
      (by_port (takens_here are v is k)) (entries_at are v is k)) ((are.stamps n.0).keeps on) in
      record { stamped = kept.stamped; counter_is = kept.counter_is; put_are = λ i lt. kept.put_are i lt ∙ put_is are v i }

  -- what was put on a link, by what the end took that was made with it
  pub splits_at : (v i : ℕ) → IsVertex net v → i < degree_of net v
      → (link_in outcome v i).put ≡ by_port (takens_at are (neighbour_of net v i)) (back_port_of net v i) ++ (link_in outcome v i).held
  splits_at v i is lt = split_is are v i is lt ∙ ap (λ l. l ++ (link_in outcome v i).held) (taken_is are v i is lt)

module _ {S M E A X Y : Type 0} {program : Program S M E} {net : Net} {nodes : List A} {vertex : A → ℕ} {alpha : A → Alpha S M}
    {aside : A → Option (Aside M)} {counter : A → ℕ} {puts : A → List X} {put : X → List (Stamped M)} {takes : A → List Y} {taken : Y → List (Stamped M)}
    {entries : A → List (StampedEntry M)} {crossed : List (List Y)} {transcript : Bool} {outcome : Outcome S M}
    (are : AreGathered program net nodes vertex alpha aside counter puts put takes taken entries crossed transcript outcome)
    (written : (v : ℕ) → IsVertex net v
    → IsTranscript program net v transcript (node_in program net outcome v) (put_by outcome v) (taken_by net outcome v) (bare_of (entries_in outcome v)))
    (on : IsTrue transcript) where
  pub have_met : HaveMet program net (node_in program net outcome) (counters are) (λ v i. (link_in outcome v i).put) (λ v i. by_port (takens_at are v) i)
      (λ v i. (link_in outcome v i).held) (entries_in outcome)
  have_met = record {
    keeps = keeps_at are on;
    written = λ v is.
        let all = (written v is).written on in
        record {
          run = all.run;
          puts_are = all.puts_are;
          takes_are = λ i lt. all.takes_are i lt ∙ ap (λ l. wires_of l) (sym (taken_here are v is i lt));
          pulses_are = all.pulses_are;
        };
    splits = splits_at are;
  }
