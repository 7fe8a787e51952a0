-- The stamps of merged rows are those that the counters give: a wire that was taken was put before.
use Rattle.std.proofs.Common.{◌≡◌, ℕ, suc, ◌<◌, ◌≤◌, ◌==◌, true, List, [], ◌∷◌, ◌++◌, length, get_or, refl, sym, ap, ◌∙◌, ⊎_elim, zero, arith, subst}
use Rattle.std.specs.Prelude.{All, max, ◌&&◌}
use Rattle.std.proofs.lemmas.Bool.{eq-eqb}
use Rattle.std.proofs.lemmas.List.{get_or_append_left, get_or_at, length-append, length-map, map-append}
use Rattle.std.proofs.lemmas.List.Elements.{All-cons, All-head, All-nil, All-tail, All-weaker, All-get_or}
use Rattle.outcomes.proofs.Steps.{matched}
use Rattle.interference.specs.Net.{Net, IsNetwork, IsVertex, count_of, degree_of, neighbour_of, neighbours, port_to, back_port_of}
use Rattle.interference.proofs.Members.{place_of-is}
use Rattle.interference.proofs.Neighbours.{at-back_port, back-of-back_port}
use Rattle.node_api.specs.Program.{Program, last_pulse_on}
use Rattle.wires.specs.declared.wire.Wire.{Wire}
use Rattle.alpha_core.specs.View.{Node, is_drained}
use Rattle.alpha_core.specs.Alpha.{pulse, put_done, reaction}
use Rattle.alpha_core.specs.Program.{start_node}
use Rattle.entries.specs.declared.entry.Entry.{Entry}
use Rattle.entries.specs.declared.entry.Entry.TheVariants.{Pulse, Put, Take}
use Rattle.entries.specs.Rows.{stamped_entry, stamped_row, bare_of}
use Rattle.wired_nodes.specs.Written.{Leads, takes_in}
use Rattle.event_rule.specs.State.{State, node_of}
use Rattle.wires.specs.declared.stamped.Stamped.{Stamped}
use Rattle.wires.specs.StampedWires.{stamped, stamps_of, wires_of}
use Rattle.entries.specs.declared.rows.StampedEntry.{StampedEntry}
use Rattle.stamps.specs.Stamps.{counter_of, next_stamp, put_in, taken_in}
use Rattle.stamps.specs.Keeps.{came_to}
use Rattle.entries.specs.declared.rows.StampedRow.{StampedRow}
use Rattle.stamps.specs.Merged.{AreOrdered, AreStampedRows, IsMerge, Precedes, entries_at, puts_at, stamp_behind}
use Rattle.event_rule.specs.Whole.{IsStampedReplay, IsWholeReplay}
use Rattle.stamps.proofs.Appends.{not_above, puts_append, rest_ordered}
use Rattle.stamps.proofs.Lists.{entry_here, none_or_one, puts_are}
use Rattle.stamps.proofs.Unique.{entries_append}
use Rattle.stamps.proofs.Local.{taken_more}
use Rattle.outcomes.specs.MergedRuns.{HaveMet, IsReplayTo, links_of}
use Rattle.outcomes.proofs.MetNodes.{met_written}
use Rattle.wired_nodes.proofs.StampedEntries.{wires_taken}
use Rattle.outcomes.proofs.Runs.{merged}

module _ {M : Type 0} where
  puts_above : (s : ℕ) (rows : List (StampedRow M)) (v w : ℕ) → All (λ row. s ≤ row.stamp) rows → All (λ x. s ≤ x.stamp) (puts_at rows v w)
  puts_above s [] v w all = All-nil (λ (x : Stamped M). s ≤ x.stamp)
  puts_above s (row ∷ rows) v w all =
      let more = puts_above s rows v w (All-tail (λ (r : StampedRow M). s ≤ r.stamp) row rows all) in
      let P : List (Stamped M) → Type 0 = λ l. All (λ x. s ≤ x.stamp) (l ++ puts_at rows v w) in
      ⊎_elim
      (λ none. subst P (sym none) more)
      (λ one. subst P (sym one.1) (All-cons (λ (y : Stamped M). s ≤ y.stamp) (stamped row.stamp one.0) (puts_at rows v w)
      (All-head (λ (r : StampedRow M). s ≤ r.stamp) row rows all) more))
      (none_or_one (λ to. (row.vertex == v) && (to == w)) row.stamp row.entry)

  -- A number that stands at k in a list, of which the first part is followed by numbers that are no less than s, stands in
  -- the first part if it is less than s.
  first_part : (k s : ℕ) (xs ys : List (Stamped M)) → All (λ y. s ≤ y.stamp) ys → k < length (xs ++ ys) → get_or (stamps_of (xs ++ ys)) k 0 < s
      → get_or (stamps_of (xs ++ ys)) k 0 ≡ get_or (stamps_of xs) k 0
  first_part k s [] [] all lt low = refl
  first_part zero s [] (y ∷ ys) all lt low = let le = All-head (λ (z : Stamped M). s ≤ z.stamp) y ys all in absurd (omega (arith, le, low))
  first_part (suc k) s [] (y ∷ ys) all lt low = first_part k s [] ys (All-tail (λ (z : Stamped M). s ≤ z.stamp) y ys all) (omega (arith, lt)) low ∙ sym (past k)
    where
      past : (k : ℕ) → 0 ≡ get_or {A = ℕ} [] k 0
      past k = refl
  first_part zero s (x ∷ xs) ys all lt low = refl
  first_part (suc k) s (x ∷ xs) ys all lt low = first_part k s xs ys all (omega (arith, lt)) low

module _ {S M E : Type 0} (program : Program S M E) (net : Net) (v : ℕ) where
  -- a take is by a port
  pub take_port : (before : List (Entry M)) (w : ℕ) (x : Wire M) (after : List (Entry M)) (from to : Node S M)
      → Leads program net v (before ++ (Take w x ∷ after)) from to → port_to net v w < degree_of net v
  take_port [] w x after from to is = is.0
  take_port (Pulse p ∷ before) w x after from to is =
      let rest = before ++ (Take w x ∷ after) in
      let got = matched (pulse program.next (last_pulse_on program net) from) (λ n. Leads program net v rest n to) is.1.1 in
      take_port before w x after got.0 to got.2
  take_port (Put u y ∷ before) w x after from to is =
      take_port before w x after record from { view = put_done from.view (port_to net v u) } to is.1.1
  take_port (Take u y ∷ before) w x after from to is =
      let rest = before ++ (Take w x ∷ after) in
      let got = matched (reaction (last_pulse_on program net) from.view (port_to net v u) y)
      (λ view. Leads program net v rest record from { view = view } to) is.1 in
      take_port before w x after record from { view = got.0 } to got.2

module _ {S M E : Type 0} (program : Program S M E) (net : Net) (ok : IsNetwork net) (nodes : ℕ → Node S M) (counters : ℕ → ℕ)
    (puts takens held : ℕ → ℕ → List (Stamped M)) (wrote : ℕ → List (StampedEntry M)) (rows : List (StampedRow M))
    (met : HaveMet program net nodes counters puts takens held wrote) (merge : IsMerge (count_of net) wrote rows) where
  -- the entries of the vertex of a row
  split_at : (before : List (StampedRow M)) (s v : ℕ) (e : Entry M) (after : List (StampedRow M))
      → rows ≡ before ++ (stamped_row s v e ∷ after) → IsVertex net v → wrote v ≡ entries_at before v ++ (stamped_entry s e ∷ entries_at after v)
  split_at before s v e after is vertex =
      sym (merge.each v vertex) ∙ ap (λ l. entries_at l v) is ∙ entries_append before (stamped_row s v e ∷ after) v
      ∙ ap (λ l. entries_at before v ++ l) (entry_here s v e after)

  stamp_taken : (before : List (StampedRow M)) (s v w : ℕ) (x : Wire M) (after : List (StampedRow M)) → rows ≡ before ++ (stamped_row s v (Take w x) ∷ after)
      → IsVertex net v
      → s ≡ stamp_behind before (stamped_row s v (Take w x))
  stamp_taken before s v w x after is vertex =
      let b = entries_at before v in
      let split = split_at before s v (Take w x) after is vertex in
      let right : s ≡ next_stamp (came_to net v (takens v)) b (Take w x) =
      (met.keeps v vertex).stamped b (stamped_entry s (Take w x)) (entries_at after v) split in
      let i = port_to net v w in
      let lt : i < degree_of net v = take_port program net v (bare_of b) w x (bare_of (entries_at after v)) (start_node program net v) (nodes v)
      (subst (λ l. Leads program net v l (start_node program net v) (nodes v))
      (ap (λ l. bare_of l) split ∙ map-append (λ (e : StampedEntry M). e.entry) b (stamped_entry s (Take w x) ∷ entries_at after v))
      (met.written v vertex).run) in
      let to : neighbour_of net v i ≡ w = place_of-is w (neighbours net v) 0 lt in
      let j = back_port_of net v i in
      let vertex' : IsVertex net w = subst (λ u. IsVertex net u) to (ok.vertices v i vertex lt) in
      let back : neighbour_of net (neighbour_of net v i) j ≡ v = at-back_port net ok v i vertex lt in
      let port : back_port_of net (neighbour_of net v i) j ≡ i = back-of-back_port net ok v i vertex lt in
      let k = length (taken_in b w) in
      let took = takens v i in
      let p = puts_at before w v in
      let q = puts_at after w v in
      -- what w put for v
      let all : p ++ q ≡ took ++ held (neighbour_of net v i) j =
      sym (puts_append before (stamped_row s v (Take w x) ∷ after) w v) ∙ ap (λ l. puts_at l w v) (sym is) ∙ puts_are rows w v ∙ ap (λ l. put_in l v)
      (merge.each w vertex')
      ∙ ap (λ u. put_in (wrote u) v) (sym to) ∙ ap (λ u. put_in (wrote (neighbour_of net v i)) u) (sym back)
      ∙ (met.keeps (neighbour_of net v i) (ok.vertices v i vertex lt)).put_are j (ok.symmetric v i vertex lt)
      ∙ met.splits (neighbour_of net v i) j (ok.vertices v i vertex lt) (ok.symmetric v i vertex lt)
      ∙ ap (λ u. takens u (back_port_of net (neighbour_of net v i) j) ++ held (neighbour_of net v i) j) back
      ∙ ap (λ y. takens v y ++ held (neighbour_of net v i) j) port in
      -- how many it had taken
      let wires : wires_of (taken_in (wrote v) w) ≡ wires_of took =
      wires_taken (wrote v) w ∙ ap (λ u. takes_in (bare_of (wrote v)) u) (sym to) ∙ (met.written v vertex).takes_are i lt in
      let here : taken_in (wrote v) w ≡ taken_in b w ++ taken_in (stamped_entry s (Take w x) ∷ entries_at after v) w =
      ap (λ l. taken_in l w) split ∙ taken_more b (stamped_entry s (Take w x) ∷ entries_at after v) w in
      let one : taken_in (stamped_entry s (Take w x) ∷ entries_at after v) w ≡ stamped s x ∷ taken_in (entries_at after v) w =
      let yes = eq-eqb w w refl in rw yes refl in
      let many : k < length took =
      let a = ap (λ l. length l) wires in let b' = ap (λ l. length l) here in let c = ap (λ l. length l) one in
      let d = length-append (taken_in b w) (taken_in (stamped_entry s (Take w x) ∷ entries_at after v) w) in
      let e = length-map (taken_in (wrote v) w) (λ z. z.wire) in let f = length-map took (λ z. z.wire) in
      omega (arith, a, b', c, d, e, f) in
      let came : get_or (stamps_of took) k 0 ≡ get_or (stamps_of (p ++ q)) k 0 =
      let within : k < length (stamps_of took) = let f = length-map took (λ z. z.stamp) in omega (arith, many, f) in
      sym (get_or_append_left (stamps_of took) (stamps_of (held (neighbour_of net v i) j)) 0 k within)
      ∙ ap (λ l. get_or l k 0) (sym (map-append (λ z. z.stamp) took (held (neighbour_of net v i) j)) ∙ ap (λ l. stamps_of l) (sym all)) in
      let low : get_or (stamps_of (p ++ q)) k 0 < s = omega (arith, right, came) in
      let long : k < length (p ++ q) =
      let a = ap (λ l. length l) all in let d = length-append took (held (neighbour_of net v i) j) in omega (arith, a, d, many) in
      let ordered = rest_ordered before (stamped_row s v (Take w x) ∷ after) (subst AreOrdered is merge.ordered) in
      let high : All (λ (y : Stamped M). s ≤ y.stamp) q =
      puts_above s after w v (All-weaker (Precedes (stamped_row s v (Take w x))) (λ (r : StampedRow M). s ≤ r.stamp)
      (λ r pre. not_above (stamped_row s v (Take w x)) r pre) after ordered.0) in
      let same : get_or (stamps_of took) k 0 ≡ get_or (stamps_of p) k 0 = came ∙ first_part k s p q high long low in
      right ∙ ap (λ t. suc (max (counter_of b) t)) same

  stamp_of_row : (s v : ℕ) (e : Entry M) (before after : List (StampedRow M)) → rows ≡ before ++ (stamped_row s v e ∷ after) → IsVertex net v
      → s ≡ stamp_behind before (stamped_row s v e)
  stamp_of_row s v (Pulse p) before after is vertex =
      (met.keeps v vertex).stamped (entries_at before v) (stamped_entry s (Pulse p)) (entries_at after v) (split_at before s v (Pulse p) after is vertex)
  stamp_of_row s v (Put w x) before after is vertex =
      (met.keeps v vertex).stamped (entries_at before v) (stamped_entry s (Put w x)) (entries_at after v) (split_at before s v (Put w x) after is vertex)
  stamp_of_row s v (Take w x) before after is vertex = stamp_taken before s v w x after is vertex

  stamped_rows : AreStampedRows rows
  stamped_rows before row after is =
      let all = subst (λ l. All (λ (r : StampedRow M). IsVertex net r.vertex) l) is merge.vertices in
      let vertex : IsVertex net row.vertex = subst (λ (r : StampedRow M). IsVertex net r.vertex) (get_or_at before row after row (length before) refl)
      (All-get_or (λ (r : StampedRow M). IsVertex net r.vertex) (before ++ (row ∷ after)) (length before) row
      (let d = length-append before (row ∷ after) in omega (arith, d)) all) in
      stamp_of_row row.stamp row.vertex row.entry before after is vertex

  pub met_replay : (to : IsReplayTo program net rows nodes (links_of net takens held)) × IsStampedReplay program net rows to.last
  met_replay =
      let written = (met_written program net ok nodes counters puts takens held wrote met).0 in
      let run = merged program net ok nodes (links_of net takens held) wrote rows written merge in
      (run, record { replay = run.replay; ordered = merge.ordered; stamped = stamped_rows })

  pub whole_replay : ((v : ℕ) → IsVertex net v → is_drained (last_pulse_on program net) (nodes v).view ≡ true)
      → ((v i : ℕ) → IsVertex net v → i < degree_of net v → held v i ≡ [])
      → (last : State S M) × IsWholeReplay program net rows last × ((v : ℕ) → IsVertex net v → node_of program net last v ≡ nodes v)
  whole_replay drained empty =
      let run = met_replay.0 in (
        run.last,
        record {
          replay = met_replay.1;
          whole = λ v vertex. (
            subst (λ n. is_drained (last_pulse_on program net) n.view ≡ true) (sym (run.nodes_are v vertex)) (drained v vertex),
            λ i lt. ap (λ l. l.held) (run.links_are v i vertex lt) ∙ ap (λ l. wires_of l) (empty v i vertex lt),
          );
        },
        run.nodes_are,
      )
