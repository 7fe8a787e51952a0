-- The stamp of an event that is still to come, behind one row more.
use Rattle.std.proofs.Common.{◌≡◌, ◌∙◌, ℕ, zero, suc, ◌<◌, ◌≤◌, List, [], ◌∷◌, ◌++◌, append-nil, arith, length, sym, ap, subst, ⊎_elim, if◌then◌else◌}
use Rattle.std.specs.Prelude.{All, Bool, true, false, ◌&&◌, ◌==◌, slice_index_or}
use Rattle.std.proofs.lemmas.List.{get_or_at, length-map, map-append}
use Rattle.std.proofs.lemmas.List.Elements.{All-cons, All-head, All-nil, All-tail}
use Rattle.interference.specs.Net.{Net, neighbour_of}
use Rattle.wires.specs.StampedWires.{stamps_of}
use Rattle.wires.specs.declared.stamped.Stamped.{Stamped}
use Rattle.wires.specs.declared.wire.Wire.{Wire}
use Rattle.entries.specs.Rows.{stamped_entry, stamped_row, without_vertex}
use Rattle.entries.specs.declared.entry.Entry.{Entry}
use Rattle.entries.specs.declared.entry.Entry.TheVariants as entry
use Rattle.entries.specs.declared.rows.StampedRow.{StampedRow}
use Rattle.event_rule.specs.declared.event.Event.{Event}
use Rattle.event_rule.specs.declared.event.Event.TheVariants.{Pulse, Put, Take}
use Rattle.event_rule.specs.Commute.{vertex_of}
use Rattle.stamps.specs.Merged.{entries_at, puts_at, takes_at}
use Rattle.stamps.specs.Stamps.{counter_from, counter_of, taken_in}
use Rattle.stamps.proofs.Appends.{puts_append}
use Rattle.stamps.proofs.Lists.{entry_here, entry_other, none_or_one, put_here, takes_are}
use Rattle.stamps.proofs.Local.{counter_behind}
use Rattle.stamps.proofs.Unique.{entries_append}
use Rattle.lone_runs.specs.Ticks.{event_stamp}

-- an entry of a list, or 0, doesn't fall if the list gets longer
index_grows : (xs ys : List ℕ) (k : ℕ) → slice_index_or xs k 0 ≤ slice_index_or (xs ++ ys) k 0
index_grows [] ys k = omega arith
index_grows (x ∷ xs) ys zero = omega arith
index_grows (x ∷ xs) ys (suc k) = index_grows xs ys k

index_below : (n : ℕ) (xs : List ℕ) (k : ℕ) → 0 < n → All (λ s. s < n) xs → slice_index_or xs k 0 < n
index_below n [] k some all = some
index_below n (x ∷ xs) zero some all = All-head (λ s. s < n) x xs all
index_below n (x ∷ xs) (suc k) some all = index_below n xs k some (All-tail (λ s. s < n) x xs all)

module _ {M : Type 0} (net : Net) (rows : List (StampedRow M)) (s v : ℕ) (e : Entry M) where
  abbrev more : List (StampedRow M)
  more = rows ++ (stamped_row s v e ∷ [])

  own_counter : counter_of (entries_at more v) ≡ s
  own_counter =
      ap (λ l. counter_of l) (entries_append rows (stamped_row s v e ∷ []) v ∙ ap (λ l. entries_at rows v ++ l) (entry_here s v e []))
      ∙ counter_behind 0 (entries_at rows v) (stamped_entry s e)

  other_entries : (u : ℕ) → (u ≡ v → ⊥) → entries_at more u ≡ entries_at rows u
  other_entries u ne =
      entries_append rows (stamped_row s v e ∷ []) u ∙ ap (λ l. entries_at rows u ++ l) (entry_other s v u e [] ne) ∙ append-nil (entries_at rows u)

  more_stamps : (w u : ℕ) → stamps_of (puts_at more w u) ≡ stamps_of (puts_at rows w u) ++ stamps_of (puts_at (stamped_row s v e ∷ []) w u)
  more_stamps w u =
      ap (λ l. stamps_of l) (puts_append rows (stamped_row s v e ∷ []) w u)
      ∙ map-append (λ (z : Stamped M). z.stamp) (puts_at rows w u) (puts_at (stamped_row s v e ∷ []) w u)

  -- that of an event of the row's vertex is above the row's
  pub own_above : (event : Event) → vertex_of event ≡ v → s < event_stamp net more event
  own_above (Pulse u) is = let c = ap (λ k. counter_of (entries_at more k)) is ∙ own_counter in omega (arith, c)
  own_above (Put u i) is = let c = ap (λ k. counter_of (entries_at more k)) is ∙ own_counter in omega (arith, c)
  own_above (Take u i) is = let c = ap (λ k. counter_of (entries_at more k)) is ∙ own_counter in omega (arith, c)

  -- that of another doesn't fall
  pub stamp_grows : (event : Event) → (vertex_of event ≡ v → ⊥) → event_stamp net rows event ≤ event_stamp net more event
  stamp_grows (Pulse u) ne = let c = ap (λ l. counter_of l) (other_entries u ne) in omega (arith, c)
  stamp_grows (Put u i) ne = let c = ap (λ l. counter_of l) (other_entries u ne) in omega (arith, c)
  stamp_grows (Take u i) ne =
      let w = neighbour_of net u i in
      let same = other_entries u ne in
      let c = ap (λ l. counter_of l) same in
      let n = length (taken_in (entries_at rows u) w) in
      let k : length (taken_in (entries_at more u) w) ≡ n = ap (λ l. length (taken_in l w)) same in
      let is : slice_index_or (stamps_of (puts_at more w u)) (length (taken_in (entries_at more u) w)) 0
      ≡ slice_index_or (stamps_of (puts_at rows w u) ++ stamps_of (puts_at (stamped_row s v e ∷ []) w u)) n 0 =
      ap (λ l. slice_index_or l (length (taken_in (entries_at more u) w)) 0) (more_stamps w u)
      ∙ ap (λ m. slice_index_or (stamps_of (puts_at rows w u) ++ stamps_of (puts_at (stamped_row s v e ∷ []) w u)) m 0) k in
      let grows = index_grows (stamps_of (puts_at rows w u)) (stamps_of (puts_at (stamped_row s v e ∷ []) w u)) n in
      omega (arith, c, is, grows)

-- that of a take of the wire that was put just now, on a link all of whose wires were taken, is above that of the put
pub taken_above : {M : Type 0} (net : Net) (rows : List (StampedRow M)) (s v u i : ℕ) (x : Wire M) → neighbour_of net u i ≡ v → (u ≡ v → ⊥)
    → length (puts_at rows v u) ≡ length (takes_at rows u v) → s < event_stamp net (rows ++ (stamped_row s v (entry.Put u x) ∷ [])) (Take u i)
taken_above {M} net rows s v u i x from ne all =
    let row : StampedRow M = stamped_row s v (entry.Put u x) in
    let new = rows ++ (row ∷ []) in
    let puts = stamps_of (puts_at rows v u) in
    let stamps : stamps_of (puts_at new v u) ≡ puts ++ (s ∷ []) =
    more_stamps net rows s v (entry.Put u x) v u ∙ ap (λ l. puts ++ stamps_of l) (put_here s v u x []) in
    let many : length puts ≡ length (taken_in (entries_at new u) v) =
    length-map (puts_at rows v u) (λ (z : Stamped M). z.stamp) ∙ all ∙ ap (λ l. length l) (takes_are rows u v)
    ∙ ap (λ l. length (taken_in l v)) (sym (other_entries net rows s v (entry.Put u x) u ne)) in
    let last : slice_index_or (stamps_of (puts_at new v u)) (length (taken_in (entries_at new u) v)) 0 ≡ s =
    ap (λ l. slice_index_or l (length (taken_in (entries_at new u) v)) 0) stamps
    ∙ get_or_at puts s [] 0 (length (taken_in (entries_at new u) v)) many in
    let here : slice_index_or (stamps_of (puts_at new (neighbour_of net u i) u)) (length (taken_in (entries_at new u) (neighbour_of net u i))) 0 ≡ s =
    ap (λ w. slice_index_or (stamps_of (puts_at new w u)) (length (taken_in (entries_at new u) w)) 0) from ∙ last in
    omega (arith, here)

pick : {A : Type 0} (P : A → Type 0) (b : Bool) (x y : A) → P x → P y → P (if b then x else y)
pick P true x y p q = p
pick P false x y p q = q

module _ {M : Type 0} (n : ℕ) (some : 0 < n) where
  abbrev Below : List (StampedRow M) → Type 0
  Below rows = All (λ row. row.stamp < n) rows

  counter_below : (c v : ℕ) (rows : List (StampedRow M)) → c < n → Below rows → counter_from c (entries_at rows v) < n
  counter_below c v [] lt all = lt
  counter_below c v (row ∷ rows) lt all =
      let tail = All-tail (λ (r : StampedRow M). r.stamp < n) row rows all in
      let head = All-head (λ (r : StampedRow M). r.stamp < n) row rows all in
      pick (λ es. counter_from c es < n) (row.vertex == v) (without_vertex row ∷ entries_at rows v) (entries_at rows v)
      (counter_below row.stamp v rows head tail) (counter_below c v rows lt tail)

  puts_below : (v w : ℕ) (rows : List (StampedRow M)) → Below rows → All (λ s. s < n) (stamps_of (puts_at rows v w))
  puts_below v w [] all = All-nil (λ s. s < n)
  puts_below v w (row ∷ rows) all =
      let rest = puts_below v w rows (All-tail (λ (r : StampedRow M). r.stamp < n) row rows all) in
      let P : List (Stamped M) → Type 0 = λ l. All (λ s. s < n) (stamps_of (l ++ puts_at rows v w)) in
      ⊎_elim
      (λ none. subst P (sym none) rest)
      (λ one. subst P (sym one.1) (All-cons (λ s. s < n) row.stamp (stamps_of (puts_at rows v w))
      (All-head (λ (r : StampedRow M). r.stamp < n) row rows all) rest))
      (none_or_one (λ to. (row.vertex == v) && (to == w)) row.stamp row.entry)

  -- that of an event behind rows with stamps below n is at most n
  pub stamp_within : (net : Net) (rows : List (StampedRow M)) → Below rows → (event : Event) → event_stamp net rows event ≤ n
  stamp_within net rows all (Pulse v) = let c = counter_below 0 v rows some all in omega (arith, c)
  stamp_within net rows all (Put v i) = let c = counter_below 0 v rows some all in omega (arith, c)
  stamp_within net rows all (Take v i) =
      let c = counter_below 0 v rows some all in
      let w = neighbour_of net v i in
      let k = index_below n (stamps_of (puts_at rows w v)) (length (taken_in (entries_at rows v) w)) some (puts_below w v rows all) in
      omega (arith, c, k)
