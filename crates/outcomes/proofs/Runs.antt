-- All rows, by the first of them.
use Rattle.std.proofs.Common.{◌≡◌, ℕ, suc, ◌-◌, ◌<◌, List, [], ◌∷◌, map, length, get_or, replicate, Some, Ok, refl, sym, ap, ◌∙◌, subst, arith, zero}
use Rattle.std.specs.Prelude.{All}
use Rattle.std.proofs.lemmas.List.{append-nil, get_or-map, length-map, length-replicate}
use Rattle.std.proofs.lemmas.List.FromFn.{length-range_with_len, get_or-range_with_len}
use Rattle.std.proofs.lemmas.List.Elements.{All-head, All-tail}
use Rattle.interference.specs.Net.{Net, IsNetwork, IsVertex, count_of, degree_of, neighbour_of, back_port_of, vertices}
use Rattle.interference.proofs.Neighbours.{at-back_port}
use Rattle.node_api.specs.Program.{Program}
use Rattle.alpha_core.specs.View.{Node}
use Rattle.alpha_core.specs.Program.{start_node}
use Rattle.alpha_laws.proofs.Across.{over}
use Rattle.wired_nodes.specs.Written.{Leads, takes_in}
use Rattle.event_rule.specs.State.{Link, State, link_at, no_link, start}
use Rattle.event_rule.specs.Step.{go_on, run_from, step}
use Rattle.event_rule.specs.Rows.{event_of, if_made, rows_from}
use Rattle.wires.specs.StampedWires.{wires_of}
use Rattle.entries.specs.Rows.{without_stamp, bare_of}
use Rattle.entries.specs.declared.rows.StampedEntry.{StampedEntry}
use Rattle.stamps.specs.Stamps.{Carries, put_in, taken_in}
use Rattle.entries.specs.declared.rows.StampedRow.{StampedRow}
use Rattle.stamps.specs.Merged.{AreOrdered, IsMerge, entries_at, puts_at, rows_in, takes_at}
use Rattle.stamps.proofs.Lists.{puts_are, takes_are}
use Rattle.outcomes.specs.MergedRuns.{AreWritten, IsReplayTo}
use Rattle.wired_nodes.proofs.StampedEntries.{wires_taken}
use Rattle.outcomes.proofs.Steps.{Comes, IsTable, Left, row_made}

module _ {S M E : Type 0} (program : Program S M E) (net : Net) (ok : IsNetwork net) (nodes : ℕ → Node S M) (links : ℕ → ℕ → Link M) where
  -- the rows lead from a state to the end
  record Reaches (k : ℕ) (rows : List (StampedRow M)) (state : State S M) : Type 0 where
    last : State S M
    is_run : run_from program net k (map (λ row. event_of net row) (rows_in rows)) state ≡ Ok last
    rows_are : rows_from program net state (map (λ row. event_of net row) (rows_in rows)) ≡ map Some (rows_in rows)
    left : Left program net nodes links [] last

  reaches : (k : ℕ) (rows : List (StampedRow M)) (state : State S M) → AreOrdered rows → All (λ row. IsVertex net row.vertex) rows
      → Left program net nodes links rows state → Reaches k rows state
  reaches k [] state ordered vertices left = record { last = state; is_run = refl; rows_are = refl; left = left }
  reaches k (row ∷ rows) state ordered vertices left =
      let made = row_made program net ok nodes links row rows state (All-head (λ r. IsVertex net r.vertex) row rows vertices) ordered.0 left in
      let rest = reaches (suc k) rows made.next ordered.1 (All-tail (λ r. IsVertex net r.vertex) row rows vertices) made.left in
      let events = map (λ r. event_of net r) (rows_in rows) in
      record {
        last = rest.last;
        is_run = ap (λ r. go_on k r (λ next. run_from program net (suc k) events next)) made.leads ∙ rest.is_run;
        rows_are = ap (λ o. o ∷ if_made (step program net state (event_of net (without_stamp row))) (λ next. rows_from program net next events)) made.writes
            ∙ ap (λ r. Some (without_stamp row) ∷ if_made r (λ next. rows_from program net next events)) made.leads
            ∙ ap (λ l. Some (without_stamp row) ∷ l) rest.rows_are;
        left = rest.left;
      }

  -- ---- the start
  made_at : {A : Type 0} (f : ℕ → A) (v : ℕ) (d : A) → IsVertex net v → get_or (map f (vertices net)) (v - 1) d ≡ f v
  made_at f v d vertex =
      let below : v - 1 < count_of net = omega (arith, vertex.0, vertex.1) in
      let at : get_or (vertices net) (v - 1) 0 ≡ v = omega (arith, get_or-range_with_len 1 (count_of net) (v - 1) 0 below, vertex.0) in
      get_or-map f (vertices net) (v - 1) 0 d (omega (arith, length-range_with_len 1 (count_of net))) ∙ ap f at

  no_links : (v i : ℕ) → IsVertex net v → link_at (start program net).links v i ≡ no_link
  no_links v i vertex = ap (λ row. get_or row i no_link) (made_at (λ u. replicate (degree_of net u) no_link) v [] vertex) ∙ all_none (degree_of net v) i
    where
      all_none : (n i : ℕ) → get_or (replicate n (no_link {M = M})) i no_link ≡ no_link
      all_none zero i = refl
      all_none (suc n) zero = refl
      all_none (suc n) (suc i) = all_none n i

  start_table : IsTable net (start program net)
  start_table = record {
    nodes = length-map (vertices net) _ ∙ length-range_with_len 1 (count_of net);
    rows = length-map (vertices net) _ ∙ length-range_with_len 1 (count_of net);
    row = λ v vertex. ap length (made_at (λ u. replicate (degree_of net u) no_link) v [] vertex) ∙ length-replicate (degree_of net v) no_link;
  }

  module _ (wrote : ℕ → List (StampedEntry M)) (rows : List (StampedRow M)) (are : AreWritten program net nodes links wrote)
      (merge : IsMerge (count_of net) wrote rows) where
    starts : Left program net nodes links rows (start program net)
    starts = record {
      table = start_table;
      leads = λ v vertex.
          subst (λ n. Leads program net v (bare_of (entries_at rows v)) n (nodes v))
          (sym (made_at (λ u. start_node program net u) v (start_node program net v) vertex))
          (subst (λ l. Leads program net v (bare_of l) (start_node program net v) (nodes v)) (sym (merge.each v vertex)) (are.written v vertex).run);
      comes = λ v i vertex lt.
          let w = neighbour_of net v i in
          let j = back_port_of net v i in
          let vertex' = ok.vertices v i vertex lt in
          let lt' = ok.symmetric v i vertex lt in
          let put : puts_at rows v w ≡ put_in (wrote v) w = puts_are rows v w ∙ ap (λ l. put_in l w) (merge.each v vertex) in
          let took : takes_at rows w v ≡ taken_in (wrote w) v = takes_are rows w v ∙ ap (λ l. taken_in l v) (merge.each w vertex') in
          let here : wires_of (taken_in (wrote w) v) ≡ (links v i).taken =
          wires_taken (wrote w) v ∙ ap (λ u. takes_in (bare_of (wrote w)) u) (sym (at-back_port net ok v i vertex lt))
          ∙ (are.written w vertex').takes_are j lt' ∙ over net ok (λ u k. (links u k).taken) v i vertex lt in
          subst (λ l. Comes l (puts_at rows v w) (takes_at rows w v) (links v i)) (sym (no_links v i vertex)) record {
            held = [];
            held_are = refl;
            carried = subst (λ l. Carries l (takes_at rows w v) (links v i).held) (sym put)
                (subst (λ l. Carries (put_in (wrote v) w) l (links v i).held) (sym took) (are.carried v i vertex lt));
            taken = ap (λ l. wires_of l) took ∙ here;
          };
    }

    link_is : (link end : Link M) → link.taken ≡ end.taken → link.held ≡ end.held → link ≡ end
    link_is link end taken held = ap (λ t. record { taken = t; held = link.held }) taken ∙ ap (λ h. record { taken = end.taken; held = h }) held

    pub merged : IsReplayTo program net rows nodes links
    merged =
        let to = reaches 0 rows (start program net) merge.ordered merge.vertices starts in
        record {
          last = to.last;
          replay = record { events = map (λ row. event_of net row) (rows_in rows); is_run = to.is_run; rows_are = to.rows_are };
          nodes_are = λ v vertex. to.left.leads v vertex;
          links_are = λ v i vertex lt.
              let comes = to.left.comes v i vertex lt in
              link_is (link_at to.last.links v i) (links v i) (sym (append-nil (link_at to.last.links v i).taken) ∙ comes.taken)
              (sym comes.held_are ∙ ap (λ l. wires_of l) (sym (append-nil comes.held)) ∙ comes.carried);
        }
