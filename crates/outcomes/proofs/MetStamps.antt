-- The stamps of nodes whose ends have met are at most as many as the events of a whole run.
-- 1. Without the wires that were set aside, the lists of each link still split, and have the same stamps (`met_kept`).
-- 2. So the entries in order are a stamped replay, whose stamps count its events (`in_rows`).
-- 3. A counter is at the stamp of the node's last entry, and each wire has the stamp of the entry that put it (`are_within`).
use Rattle.std.proofs.Common.{◌≡◌, ℕ, suc, ◌+◌, ◌<◌, ◌≤◌, ◌==◌, List, [], ◌∷◌, ◌++◌, length, take, drop, get_or, refl, sym, ap, ◌∙◌, subst}
use Rattle.std.proofs.Common.{append_assoc, ⊎_elim, arith}
use Rattle.std.specs.Prelude.{All, max}
use Rattle.std.proofs.lemmas.Bool.{cases_Bool, eq-eqb}
use Rattle.std.proofs.lemmas.List.{get_or_append_left, length-append, length-map, map-append, take-append-drop, take-map}
use Rattle.std.proofs.lemmas.List.Elements.{All-cons, All-head, All-nil, All-tail}
use Rattle.interference.specs.Net.{Net, IsNetwork, IsVertex, count_of, degree_of, neighbour_of, neighbours, port_to, back_port_of}
use Rattle.interference.proofs.Members.{place_of-is}
use Rattle.node_api.specs.Program.{Program}
use Rattle.node_api.specs.Laws.{IsProgram}
use Rattle.wires.specs.declared.wire.Wire.{Wire}
use Rattle.alpha_core.specs.View.{Node}
use Rattle.alpha_core.specs.Program.{start_node}
use Rattle.wires.specs.declared.stamped.Stamped.{Stamped}
use Rattle.wires.specs.StampedWires.{stamped, stamps_of, wires_of}
use Rattle.alpha_laws.specs.Counts.{events_of_run}
use Rattle.alpha_laws.proofs.Runs.{runs}
use Rattle.event_rule.specs.State.{State}
use Rattle.event_rule.proofs.Maximal.{bounded}
use Rattle.entries.specs.declared.entry.Entry.{Entry}
use Rattle.entries.specs.declared.entry.Entry.TheVariants.{Pulse, Put, Take}
use Rattle.entries.specs.declared.rows.StampedEntry.{StampedEntry}
use Rattle.entries.specs.declared.rows.StampedRow.{StampedRow}
use Rattle.entries.specs.Rows.{stamped_entry, bare_of, without_vertex}
use Rattle.stamps.specs.Keeps.{came_to}
use Rattle.stamps.specs.Stamps.{AreStamped, counter_from, counter_of, next_stamp, put_in, taken_in}
use Rattle.stamps.specs.Merged.{IsMerge, entries_at}
use Rattle.stamps.proofs.Lists.{none_or_one}
use Rattle.stamps.proofs.Local.{taken_more}
use Rattle.event_rule.specs.Whole.{IsStampedReplay}
use Rattle.event_rule.proofs.Counted.{stamps-within-events}
use Rattle.wired_nodes.specs.Written.{Leads, takes_in}
use Rattle.wired_nodes.proofs.StampedEntries.{wires_taken}
use Rattle.outcomes.specs.Fits.{AreWithin, HaveMetAside}
use Rattle.outcomes.specs.MergedRuns.{HaveMet}
use Rattle.outcomes.proofs.Clocks.{met_replay, take_port}
use Rattle.outcomes.proofs.Merges.{merge_of}
use Rattle.outcomes.proofs.MetNodes.{met_written}

-- entries whose stamps pass no number, the counter behind them, and the wires that they put
module _ {M : Type 0} (most : ℕ) where
  abbrev Entries : List (StampedEntry M) → Type 0
  Entries entries = All (λ e. e.stamp ≤ most) entries

  entries_within : (rows : List (StampedRow M)) (v : ℕ) → All (λ row. row.stamp ≤ most) rows → Entries (entries_at rows v)
  entries_within [] v all = All-nil (λ (e : StampedEntry M). e.stamp ≤ most)
  entries_within (row ∷ rows) v all =
      let first = All-head (λ (r : StampedRow M). r.stamp ≤ most) row rows all in
      let rest = entries_within rows v (All-tail (λ (r : StampedRow M). r.stamp ≤ most) row rows all) in
      ⊎_elim
      (λ yes.
      let here : entries_at (row ∷ rows) v ≡ without_vertex row ∷ entries_at rows v = rw yes refl in
      subst Entries (sym here) (All-cons (λ (e : StampedEntry M). e.stamp ≤ most) (without_vertex row) (entries_at rows v) first rest))
      (λ no. let other : entries_at (row ∷ rows) v ≡ entries_at rows v = rw no refl in subst Entries (sym other) rest)
      (cases_Bool (row.vertex == v))

  counter_within : (c : ℕ) (entries : List (StampedEntry M)) → c ≤ most → Entries entries → counter_from c entries ≤ most
  counter_within c [] le all = le
  counter_within c (e ∷ entries) le all =
      counter_within e.stamp entries (All-head (λ (x : StampedEntry M). x.stamp ≤ most) e entries all)
      (All-tail (λ (x : StampedEntry M). x.stamp ≤ most) e entries all)

  puts_within : (entries : List (StampedEntry M)) (w : ℕ) → Entries entries → All (λ x. x.stamp ≤ most) (put_in entries w)
  puts_within [] w all = All-nil (λ (x : Stamped M). x.stamp ≤ most)
  puts_within (e ∷ entries) w all =
      let first = All-head (λ (x : StampedEntry M). x.stamp ≤ most) e entries all in
      let rest = puts_within entries w (All-tail (λ (x : StampedEntry M). x.stamp ≤ most) e entries all) in
      let P : List (Stamped M) → Type 0 = λ l. All (λ x. x.stamp ≤ most) (l ++ put_in entries w) in
      ⊎_elim
      (λ none. subst P (sym none) rest)
      (λ one. subst P (sym one.1) (All-cons (λ (x : Stamped M). x.stamp ≤ most) (stamped e.stamp one.0) (put_in entries w) first rest))
      (none_or_one (λ to. to == w) e.stamp e.entry)

-- no stamp of a stamped replay passes the number of events that a whole run has
pub stamps_within : {S M E : Type 0} (program : Program S M E) → IsProgram program → (net : Net) → IsNetwork net → (rows : List (StampedRow M))
    (last : State S M) → IsStampedReplay program net rows last → All (λ row. row.stamp ≤ events_of_run program net) rows
stamps_within program laws net ok rows last is k d lt =
    let most = bounded ok (runs program laws net ok) is.replay.events last is.replay.is_run in
    let stamp = stamps-within-events program net rows last is k d lt in
    omega (arith, most, stamp)

module _ {S M E : Type 0} (program : Program S M E) (laws : IsProgram program) (net : Net) (ok : IsNetwork net) (nodes : ℕ → Node S M) (counters : ℕ → ℕ)
    (puts takens held : ℕ → ℕ → List (Stamped M)) (reacted : ℕ → ℕ → List (Wire M)) (wrote : ℕ → List (StampedEntry M))
    (met : HaveMetAside program net nodes counters puts takens held reacted wrote) where
  -- the wires to which a node reacted, with their stamps, and those behind them
  abbrev kept : ℕ → ℕ → List (Stamped M)
  kept v i = take (length (reacted v i)) (takens v i)

  abbrev rest : ℕ → ℕ → List (Stamped M)
  rest v i = drop (length (reacted v i)) (takens v i)

  both : (v i : ℕ) → kept v i ++ rest v i ≡ takens v i
  both v i = take-append-drop (length (reacted v i)) (takens v i)

  wires_kept : (v i : ℕ) → IsVertex net v → i < degree_of net v → wires_of (kept v i) ≡ reacted v i
  wires_kept v i is lt = sym (take-map (λ (x : Stamped M). x.wire) (length (reacted v i)) (takens v i)) ∙ met.begun v i is lt

  -- a wire to which a node reacted has the same stamp in both lists
  same_next : (v : ℕ) → IsVertex net v → (before : List (StampedEntry M)) (s : ℕ) (e : Entry M) (after : List (StampedEntry M))
      → wrote v ≡ before ++ (stamped_entry s e ∷ after)
      → next_stamp (came_to net v (takens v)) before e ≡ next_stamp (came_to net v (kept v)) before e
  same_next v is before s (Pulse p) after split = refl
  same_next v is before s (Put w x) after split = refl
  same_next v is before s (Take w x) after split =
      let more = stamped_entry s (Take w x) ∷ after in
      let i = port_to net v w in
      let written = met.written v is in
      let lt : i < degree_of net v = take_port program net v (bare_of before) w x (bare_of after) (start_node program net v) (nodes v)
      (subst (λ l. Leads program net v l (start_node program net v) (nodes v))
      (ap (λ l. bare_of l) split ∙ map-append (λ (e : StampedEntry M). e.entry) before more) written.run) in
      let to : neighbour_of net v i ≡ w = place_of-is w (neighbours net v) 0 lt in
      let k = length (taken_in before w) in
      let wires : wires_of (taken_in (wrote v) w) ≡ wires_of (kept v i) =
      wires_taken (wrote v) w ∙ ap (λ u. takes_in (bare_of (wrote v)) u) (sym to) ∙ written.takes_are i lt ∙ sym (wires_kept v i is lt) in
      let here : taken_in (wrote v) w ≡ taken_in before w ++ taken_in more w = ap (λ l. taken_in l w) split ∙ taken_more before more w in
      let one : taken_in more w ≡ stamped s x ∷ taken_in after w = let yes = eq-eqb w w refl in rw yes refl in
      let within : k < length (stamps_of (kept v i)) =
      let a = ap (λ l. length l) wires in let b = ap (λ l. length l) here in let c = ap (λ l. length l) one in
      let d = length-append (taken_in before w) (taken_in more w) in
      let e = length-map (taken_in (wrote v) w) (λ z. z.wire) in let f = length-map (kept v i) (λ z. z.wire) in
      let g = length-map (kept v i) (λ z. z.stamp) in
      omega (arith, a, b, c, d, e, f, g) in
      let same : get_or (stamps_of (takens v i)) k 0 ≡ get_or (stamps_of (kept v i)) k 0 =
      ap (λ l. get_or (stamps_of l) k 0) (sym (both v i))
      ∙ ap (λ l. get_or l k 0) (map-append (λ (z : Stamped M). z.stamp) (kept v i) (rest v i))
      ∙ get_or_append_left (stamps_of (kept v i)) (stamps_of (rest v i)) 0 k within in
      ap (λ t. suc (max (counter_of before) t)) same

  are_stamped : (v : ℕ) → IsVertex net v → AreStamped (came_to net v (kept v)) (wrote v)
  are_stamped v is before e after split =
      (met.keeps v is).stamped before e after split ∙ same_next v is before e.stamp e.entry after split

  abbrev still : ℕ → ℕ → List (Stamped M)
  still v i = rest (neighbour_of net v i) (back_port_of net v i) ++ held v i

  met_kept : HaveMet program net nodes counters puts kept still wrote
  met_kept = record {
    keeps = λ v is. let k = met.keeps v is in record { stamped = are_stamped v is; counter_is = k.counter_is; put_are = k.put_are };
    written = λ v is.
        let w = met.written v is in
        record { run = w.run; puts_are = w.puts_are; takes_are = λ i lt. w.takes_are i lt ∙ sym (wires_kept v i is lt); pulses_are = w.pulses_are };
    splits = λ v i is lt.
        let w = neighbour_of net v i in
        let j = back_port_of net v i in
        met.splits v i is lt ∙ ap (λ l. l ++ held v i) (sym (both w j)) ∙ append_assoc (kept w j) (rest w j) (held v i);
  }

  merge : (rows : List (StampedRow M)) × IsMerge (count_of net) wrote rows
  merge = merge_of (count_of net) wrote (met_written program net ok nodes counters puts kept still wrote met_kept).1

  in_rows : All (λ row. row.stamp ≤ events_of_run program net) merge.0
  in_rows =
      let to = met_replay program net ok nodes counters puts kept still wrote merge.0 met_kept merge.1 in
      stamps_within program laws net ok merge.0 to.0.last to.1

  in_entries : (v : ℕ) → IsVertex net v → All (λ e. e.stamp ≤ events_of_run program net) (wrote v)
  in_entries v is =
      subst (λ l. All (λ e. e.stamp ≤ events_of_run program net) l) (merge.1.each v is)
      (entries_within (events_of_run program net) merge.0 v in_rows)

  pub are_within : AreWithin net (events_of_run program net) counters puts
  are_within = record {
    counter = λ v is.
        subst (λ n. n ≤ events_of_run program net) (met.keeps v is).counter_is
        (counter_within (events_of_run program net) 0 (wrote v) (omega arith) (in_entries v is));
    put = λ v i is lt.
        subst (λ l. All (λ x. x.stamp ≤ events_of_run program net) l) ((met.keeps v is).put_are i lt)
        (puts_within (events_of_run program net) (wrote v) (neighbour_of net v i) (in_entries v is));
  }
