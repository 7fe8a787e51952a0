-- The start is an outcome.
-- 1. Each of its nodes is at the start (`node_is`), and each of its links has empty lists (`link_is`).
-- 2. So the nodes keep their links (`kept`), and their stamps with no entries (`met`), and the list without events leads to them (`ran`).
-- 3. It is whole if its nodes are drained, and only those are that have nothing to do (`Bare`).
use Rattle.std.proofs.Common.{◌≡◌, ℕ, zero, suc, ◌-◌, ◌≤◌, List, [], ◌∷◌, ◌++◌, map, length, get_or, replicate, refl, sym, ap, ◌∙◌, subst, arith}
use Rattle.std.specs.Prelude.{Bool, true, false}
use Rattle.std.proofs.lemmas.List.{length-map, length-replicate}
use Rattle.std.proofs.lemmas.List.FromFn.{get_or-map-range_with_len}
use Rattle.std.proofs.lemmas.Simd.{map-map}
use Rattle.interference.specs.Net.{Net, IsNetwork, IsVertex, count_of, degree_of, neighbour_of, back_port_of, vertices}
use Rattle.node_api.specs.Program.{Program, last_pulse_on}
use Rattle.wires.specs.declared.stamped.Stamped.{Stamped}
use Rattle.wires.specs.StampedWires.{wires_of}
use Rattle.alpha_core.specs.View.{Alpha, Node, is_drained}
use Rattle.alpha_core.specs.Program.{start_node}
use Rattle.alpha_laws.specs.Kept.{AllKept, NodeKept}
use Rattle.alpha_laws.proofs.Claims.{simulates}
use Rattle.alpha_laws.proofs.NodeLaws.{starts_keep}
use Rattle.alpha_laws.proofs.PulseAfter.{start_pulse}
use Rattle.alpha_laws.proofs.Runs.{Runs}
use Rattle.entries.specs.Rows.{bare_of}
use Rattle.entries.specs.declared.rows.StampedEntry.{StampedEntry}
use Rattle.wired_nodes.specs.Written.{IsTranscript}
use Rattle.wired_nodes.proofs.HasStamps.{has_at_start}
use Rattle.wired_nodes.proofs.Kept.{node_same}
use Rattle.wired_nodes.proofs.Written.{starts_transcript}
use Rattle.event_rule.specs.State.{no_link, start}
use Rattle.outcomes.specs.MergedRuns.{HaveMet, IsRunTo}
use Rattle.outcomes.specs.Outcome.{Gathered, History, Outcome, alpha_in, entries_in, held_on, link_in, link_of, no_history, node_in, put_by}
use Rattle.outcomes.specs.Outcome.{start_of, taken_by}
use Rattle.outcomes.specs.Start.{StartsAreOutcomes, WhenStartsAreWhole, gathered_start, start_outcome}
use Rattle.outcomes.proofs.Bare.{bare_if, drained_if}
use Rattle.outcomes.proofs.Merged.{runs_merge}
use Rattle.outcomes.proofs.MetNodes.{met_written}
use Rattle.outcomes.proofs.Progress.{whole_from}
use Rattle.outcomes.proofs.Whole.{drained}

-- where all rows are of one thing, that thing is at each place
in_row : {A : Type 0} (d : A) (n i : ℕ) → get_or (replicate n d) i d ≡ d
in_row d zero i = refl
in_row d (suc n) zero = refl
in_row d (suc n) (suc i) = in_row d n i

in_rows : {A : Type 0} (d : A) (f : ℕ → ℕ) (vs : List ℕ) (k i : ℕ) → get_or (get_or (map (λ v. replicate (f v) d) vs) k []) i d ≡ d
in_rows d f [] k i = refl
in_rows d f (v ∷ vs) zero i = in_row d (f v) i
in_rows d f (v ∷ vs) (suc k) i = in_rows d f vs k i

-- what was made of each vertex
made_at : {A : Type 0} (net : Net) (f : ℕ → A) (v : ℕ) (d : A) → IsVertex net v → get_or (map f (vertices net)) (v - 1) d ≡ f v
made_at net f v d vertex =
    get_or-map-range_with_len f 1 (count_of net) (v - 1) v d (omega (arith, vertex.0, vertex.1)) (omega (arith, vertex.0))

module _ {S M E : Type 0} (program : Program S M E) (net : Net) where
  abbrev last : ℕ
  last = last_pulse_on program net

  abbrev outcome : Outcome S M
  outcome = start_outcome program net

  link_is : (v i : ℕ) → link_in outcome v i ≡ no_history
  link_is v i = in_rows (no_history {M = M}) (λ u. degree_of net u) (vertices net) (v - 1) i

  put_is : (v i : ℕ) → [] ≡ put_by outcome v i
  put_is v i = sym (ap (λ (h : History M). wires_of h.put) (link_is v i))

  taken_is : (v i : ℕ) → [] ≡ taken_by net outcome v i
  taken_is v i = sym (ap (λ (h : History M). wires_of h.taken) (link_is (neighbour_of net v i) (back_port_of net v i)))

  held_is : (v i : ℕ) → [] ≡ held_on outcome v i
  held_is v i = sym (ap (λ (h : History M). wires_of h.held) (link_is v i))

  entries_are : (v : ℕ) → entries_in outcome v ≡ []
  entries_are v = none (vertices net) (v - 1)
    where
      none : (vs : List ℕ) (k : ℕ) → get_or (map (λ (g : Gathered S M). g.entries) (map (λ u. gathered_start program net u) vs)) k [] ≡ []
      none [] k = refl
      none (u ∷ vs) zero = refl
      none (u ∷ vs) (suc k) = none vs k

  alpha_is : (v : ℕ) → IsVertex net v → alpha_in program net outcome v ≡ start_of program net v
  alpha_is v vertex =
      ap (λ (l : List (Alpha S M)). get_or l (v - 1) (start_of program net v))
      (map-map (λ (g : Gathered S M). g.alpha) (λ u. gathered_start program net u) (vertices net))
      ∙ made_at net (λ u. start_of program net u) v (start_of program net v) vertex

  node_is : (v : ℕ) → IsVertex net v → node_in program net outcome v ≡ start_node program net v
  node_is v vertex = ap (λ (a : Alpha S M). a.node) (alpha_is v vertex)

  vertices_are : (vs : List ℕ) → map (λ (g : Gathered S M). g.vertex) (map (λ v. gathered_start program net v) vs) ≡ vs
  vertices_are [] = refl
  vertices_are (v ∷ vs) = ap (λ l. v ∷ l) (vertices_are vs)

  written : (transcript : Bool) (v : ℕ) → IsVertex net v
      → IsTranscript program net v transcript (node_in program net outcome v) (put_by outcome v) (taken_by net outcome v) (bare_of (entries_in outcome v))
  written transcript v vertex =
      subst (λ n. IsTranscript program net v transcript n (put_by outcome v) (taken_by net outcome v) (bare_of (entries_in outcome v)))
      (sym (node_is v vertex))
      (starts_transcript program net v transcript (put_by outcome v) (taken_by net outcome v) (bare_of (entries_in outcome v)) (put_is v) (taken_is v)
      (ap (λ (l : List (StampedEntry M)). bare_of l) (entries_are v)))

  ran : IsRunTo program net (node_in program net outcome) (λ v i. link_of (link_in outcome v i))
  ran = record {
    events = [];
    last = start program net;
    is_run = refl;
    nodes_are = λ v vertex. made_at net (λ u. start_node program net u) v (start_node program net v) vertex ∙ sym (node_is v vertex);
    links_are = λ v i vertex lt.
        in_rows (no_link {M = M}) (λ u. degree_of net u) (vertices net) (v - 1) i ∙ sym (ap (λ (h : History M). link_of h) (link_is v i));
  }

  abbrev takens : ℕ → ℕ → List (Stamped M)
  takens v i = []

  met : HaveMet program net (node_in program net outcome) (λ v. 0) (λ v i. (link_in outcome v i).put) takens (λ v i. (link_in outcome v i).held)
      (entries_in outcome)
  met = record {
    keeps = λ v vertex.
        (has_at_start net v true 0 (λ i. (link_in outcome v i).put) (takens v) (entries_in outcome v) refl
        (λ i. sym (ap (λ (h : History M). h.put) (link_is v i))) (entries_are v)).keeps refl;
    written = λ v vertex.
        let all = (written true v vertex).written refl in
        record { run = all.run; puts_are = all.puts_are; takes_are = λ i lt. all.takes_are i lt ∙ sym (taken_is v i); pulses_are = all.pulses_are };
    splits = λ v i vertex lt.
        ap (λ (h : History M). h.put) (link_is v i) ∙ sym (ap (λ (h : History M). h.held) (link_is v i));
  }

  module _ (ok : IsNetwork net) (runs : Runs program net) where
    kept : AllKept program net (node_in program net outcome) (put_by outcome) (taken_by net outcome) (held_on outcome)
    kept = record {
      each = λ v vertex.
          subst (λ n. NodeKept program net v n (put_by outcome v) (taken_by net outcome v)) (sym (node_is v vertex))
          (node_same program net v (start_node program net v) (λ i. []) (λ i. []) (put_by outcome v) (taken_by net outcome v) (λ i lt. put_is v i)
          (λ i lt. taken_is v i) (starts_keep program net runs v vertex));
      splits = λ v i vertex lt.
          ap (λ l. l ++ held_on outcome v i) (sym (taken_is (neighbour_of net v i) (back_port_of net v i))) ∙ sym (held_is v i) ∙ put_is v i;
    }

    pub starts : StartsAreOutcomes program net
    starts capacity transcript = record {
      each_once = vertices_are (vertices net);
      last = λ v vertex. ap (λ (a : Alpha S M). a.last) (alpha_is v vertex);
      rows = length-map (vertices net) _;
      row = λ v vertex.
          ap (λ (l : List (History M)). length l) (made_at net (λ u. replicate (degree_of net u) no_history) v [] vertex)
          ∙ length-replicate (degree_of net v) no_history;
      splits = λ v i vertex lt.
          ap (λ (h : History M). h.put) (link_is v i) ∙ sym (ap (λ (h : History M). h.taken ++ h.held) (link_is v i));
      room = λ v i vertex lt. subst (λ (h : History M). length h.held ≤ capacity) (sym (link_is v i)) (omega arith);
      simulates = simulates ok runs kept;
      written = written transcript;
      rises = λ yes. (met_written program net ok _ _ _ _ _ (entries_in outcome) met).1;
      put_are = λ yes v i vertex lt. (met.keeps v vertex).put_are i lt;
      carries = λ yes. (met_written program net ok _ _ _ _ _ (entries_in outcome) met).0.carried;
      merged = λ yes. runs_merge program net ok outcome _ _ met (λ v i vertex lt. sym (ap (λ (h : History M). h.taken) (link_is v i)));
      is_run = ∣ ran ∣₁;
    }

    pub whole : WhenStartsAreWhole program net
    whole = (
      λ is v vertex.
          bare_if program net v (start_node program net v) (starts_keep program net runs v vertex) (start_pulse program net v)
          (subst (λ (n : Node S M). is_drained last n.view ≡ true) (node_is v vertex)
          (drained program net ok 0 false outcome (starts 0 false) is v vertex)),
      λ bare.
          whole_from program net ok 0 false outcome (starts 0 false) record {
            drained = λ v vertex.
                subst (λ (n : Node S M). is_drained last n.view ≡ true) (sym (node_is v vertex))
                (drained_if program net v (start_node program net v) (starts_keep program net runs v vertex) (start_pulse program net v)
                (bare v vertex));
            empty = λ v i vertex lt. sym (held_is v i);
          },
    )
