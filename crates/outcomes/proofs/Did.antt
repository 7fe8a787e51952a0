-- What the gathered nodes did, written down or not, is one run: with the entries that each would have written down, they are gathered
-- with a transcript.
use Rattle.std.proofs.Common.{◌≡◌, ℕ, ◌-◌, List, [], ◌∷◌, map, get_or, refl, sym, ap, ◌∙◌, subst, Some}
use Rattle.std.specs.Prelude.{All, Bool, IsTrue, Option, true}
use Rattle.std.proofs.Math.Logic.{∥∥₁_elim, ∥∥₁_map, ∥∥₁_prop}
use Rattle.std.proofs.lemmas.Simd.{map-map}
use Rattle.interference.specs.Net.{Net, count_of}
use Rattle.node_api.specs.Program.{Program}
use Rattle.wires.specs.declared.stamped.Stamped.{Stamped}
use Rattle.wires.specs.StampedWires.{wires_of}
use Rattle.alpha_core.specs.View.{Alpha}
use Rattle.wired_nodes.specs.declared.aside.Aside.{Aside}
use Rattle.wired_nodes.specs.declared.aside.WhyAside.TheVariants.{Refused}
use Rattle.wired_nodes.specs.Did.{Did}
use Rattle.wired_nodes.specs.Node.{by_port, reacted_to}
use Rattle.entries.specs.declared.rows.StampedEntry.{StampedEntry}
use Rattle.outcomes.specs.MergedRuns.{IsRunTo}
use Rattle.outcomes.specs.Outcome.{Outcome, entries_in, link_in, link_of, node_in, start_of}
use Rattle.outcomes.proofs.MetNodes.{met_written}
use Rattle.outcomes.proofs.Merged.{runs_merge}
use Rattle.outcomes.proofs.Merges.{merge_of}
use Rattle.port_rows.specs.Rows.{AreCrossed}
use Rattle.outcomes.proofs.Linked.{AreGathered, taken_is}
use Rattle.port_rows.proofs.Sides.{all_by}
use Rattle.outcomes.proofs.Simulating.{written}
use Rattle.outcomes.proofs.Stamping.{have_met}

-- each thing has something, so a list of things has all of it
pub chosen : {A : Type 0} {D : A → Type 0} → ((a : A) → ∥ D a ∥₁) → (xs : List A)
    → ∥ ((ys : List ((a : A) × D a)) × (map (λ y. y.0) ys ≡ xs)) ∥₁
chosen each [] = ∣ ([], refl) ∣₁
chosen each (x ∷ xs) = ∥∥₁_elim (each x) ∥∥₁_prop (λ d. ∥∥₁_map (chosen each xs) (λ ys. ((x, d) ∷ ys.0, ap (λ l. x ∷ l) ys.1)))

module _ {S M E A X Y : Type 0} {program : Program S M E} {net : Net} {nodes : List A} {vertex : A → ℕ} {alpha : A → Alpha S M}
    {aside : A → Option (Aside M)} {counter : A → ℕ} {puts : A → List X} {put : X → List (Stamped M)} {takes : A → List Y} {taken : Y → List (Stamped M)}
    {entries : A → List (StampedEntry M)} {crossed : List (List Y)} {transcript : Bool} {outcome : Outcome S M}
    (are : AreGathered program net nodes vertex alpha aside counter puts put takes taken entries crossed transcript outcome)
    (by_refusal : All (λ a. (x : Aside M) → aside a ≡ Some x → x.why ≡ Refused) nodes) where
  -- with a transcript, a list of events leads to the nodes and links
  run_to : IsTrue transcript → IsRunTo program net (node_in program net outcome) (λ v i. link_of (link_in outcome v i))
  run_to on =
      let met = have_met are (written are by_refusal) on in
      let merge = merge_of (count_of net) (entries_in outcome) (met_written program net are.network _ _ _ _ _ (entries_in outcome) met).1 in
      let to = (runs_merge program net are.network outcome _ _ met (λ v i is lt. sym (taken_is are v i is lt)) merge.0 merge.1).0 in
      record { events = to.replay.events; last = to.last; is_run = to.replay.is_run; nodes_are = to.nodes_are; links_are = to.links_are }

module _ {S M E A X Y : Type 0} {program : Program S M E} {net : Net} {nodes : List A} {vertex : A → ℕ} {alpha : A → Alpha S M}
    {aside : A → Option (Aside M)} {counter : A → ℕ} {puts : A → List X} {put : X → List (Stamped M)} {takes : A → List Y} {taken : Y → List (Stamped M)}
    {entries : A → List (StampedEntry M)} {crossed : List (List Y)} {transcript : Bool} {outcome : Outcome S M}
    (are : AreGathered program net nodes vertex alpha aside counter puts put takes taken entries crossed transcript outcome) where
  abbrev pub DidAt : A → Type 0
  DidAt a = Did program net (vertex a) (counter a) (alpha a).node (by_port (map (λ x. wires_of (put x)) (puts a)))
      (by_port (reacted_to (aside a) (map (λ y. wires_of (taken y)) (takes a)))) (by_port (map put (puts a))) (by_port (map taken (takes a)))

  module _ (all : List ((a : A) × DidAt a)) (same : map (λ y. y.0) all ≡ nodes) where
    by : {B : Type 0} (f : A → B) → map (λ (y : (a : A) × DidAt a). f y.0) all ≡ map f nodes
    by f = sym (map-map f (λ (y : (a : A) × DidAt a). y.0) all) ∙ ap (map f) same

    -- the outcome, had the nodes written down what they did
    abbrev pub full : Outcome S M
    full = record {
      nodes = map (λ (y : (a : A) × DidAt a). record { vertex = vertex y.0; alpha = alpha y.0; entries = y.1.entries }) all;
      links = outcome.links;
    }

    pub gathered_full : AreGathered program net all (λ y. vertex y.0) (λ y. alpha y.0) (λ y. aside y.0) (λ y. counter y.0) (λ y. puts y.0) put
        (λ y. takes y.0) taken (λ y. y.1.entries) crossed true full
    gathered_full = record {
      laws = are.laws;
      network = are.network;
      last = λ y. are.last y.0;
      keeps = λ y. are.keeps y.0;
      set_aside = λ y. are.set_aside y.0;
      writes = λ y. y.1.writes;
      stamps = λ y. y.1.stamps;
      outs = λ y. are.outs y.0;
      ins = λ y. are.ins y.0;
      order = by vertex ∙ are.order;
      crosses = subst (λ rows. AreCrossed net rows crossed) (sym (by takes)) are.crosses;
      vertices_are = map-map (λ g. g.vertex) _ all;
      alphas_are = map-map (λ g. g.alpha) _ all;
      entries_are = map-map (λ g. g.entries) _ all;
      puts_are = are.puts_are ∙ sym (by (λ a. map put (puts a)));
      takens_are = are.takens_are;
      splits = are.splits;
    }

    run_of : All (λ a. (x : Aside M) → aside a ≡ Some x → x.why ≡ Refused) nodes
        → IsRunTo program net (node_in program net outcome) (λ v i. link_of (link_in outcome v i))
    run_of by_refusal =
        let refused = all_by (λ a. (x : Aside M) → aside a ≡ Some x → x.why ≡ Refused) (λ y. y.0) all
        (subst (λ l. All (λ a. (x : Aside M) → aside a ≡ Some x → x.why ≡ Refused) l) (sym same) by_refusal) in
        let to = run_to gathered_full refused refl in
        let alphas = gathered_full.alphas_are ∙ by alpha ∙ sym are.alphas_are in
        record {
          events = to.events;
          last = to.last;
          is_run = to.is_run;
          nodes_are = λ v is. to.nodes_are v is ∙ ap (λ l. (get_or l (v - 1) (start_of program net v)).node) alphas;
          links_are = to.links_are;
        }

  pub ran : ((a : A) → ∥ DidAt a ∥₁) → All (λ a. (x : Aside M) → aside a ≡ Some x → x.why ≡ Refused) nodes
      → ∥ IsRunTo program net (node_in program net outcome) (λ v i. link_of (link_in outcome v i)) ∥₁
  ran each by_refusal = ∥∥₁_map (chosen each nodes) (λ ys. run_of ys.0 ys.1 by_refusal)
