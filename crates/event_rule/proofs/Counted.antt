-- Stamps, and how many rows there are.
use Rattle.std.proofs.Common.{◌≡◌, ℕ, zero, suc, ◌+◌, ◌≤◌, Bool, true, false, ◌==◌, ◌&&◌, if◌then◌else◌, List, [], ◌∷◌, ◌++◌, length}
use Rattle.std.proofs.Common.{Some, Result, Ok, Err, ap, append_assoc, arith, refl, sym, subst, ⊎_elim, ◌∙◌}
use Rattle.std.specs.Prelude.{All, slice_index_or}
use Rattle.std.proofs.lemmas.List.{append-nil, length-append, length-map}
use Rattle.interference.specs.Net.{Net}
use Rattle.node_api.specs.Program.{Program}
use Rattle.std.proofs.lemmas.List.Elements.{All-cons, All-head, All-nil, All-push, All-tail}
use Rattle.entries.specs.declared.entry.Entry.{Entry}
use Rattle.entries.specs.declared.entry.Entry.TheVariants.{Pulse, Put, Take}
use Rattle.entries.specs.Rows.{stamped_row, without_stamp, without_vertex}
use Rattle.wires.specs.declared.stamped.Stamped.{Stamped}
use Rattle.stamps.specs.Stamps.{counter_from, counter_of, taken_in}
use Rattle.entries.specs.declared.rows.StampedRow.{StampedRow}
use Rattle.stamps.specs.Merged.{AreStampedRows, entries_at, puts_at, rows_in, stamp_behind}
use Rattle.stamps.proofs.Lists.{none_or_one}
use Rattle.wires.specs.StampedWires.{stamps_of}
use Rattle.event_rule.specs.declared.event.Event.{Event}
use Rattle.event_rule.specs.declared.refused.StepRefused.{StepRefused}
use Rattle.event_rule.specs.State.{State, start}
use Rattle.event_rule.specs.Step.{go_on, run_from, step}
use Rattle.event_rule.specs.Rows.{if_made, rows_from}
use Rattle.event_rule.specs.Replays.{IsReplay}
use Rattle.event_rule.specs.Counted.{EventsBoundStamps}

pick : {A : Type 0} (P : A → Type 0) (b : Bool) (x y : A) → P x → P y → P (if b then x else y)
pick P true x y p q = p
pick P false x y p q = q

index-within : (n : ℕ) (xs : List ℕ) (k : ℕ) → All (λ s. s ≤ n) xs → slice_index_or xs k 0 ≤ n
index-within n [] k all = omega arith
index-within n (x ∷ xs) zero all = All-head (λ s. s ≤ n) x xs all
index-within n (x ∷ xs) (suc k) all = index-within n xs k (All-tail (λ s. s ≤ n) x xs all)

module _ {M : Type 0} where
  -- all stamps are at most n
  abbrev Within : ℕ → List (StampedRow M) → Type 0
  Within n rows = All (λ row. row.stamp ≤ n) rows

  head-within : (n : ℕ) (row : StampedRow M) (rows : List (StampedRow M)) → Within n (row ∷ rows) → row.stamp ≤ n
  head-within n row rows all = All-head (λ (r : StampedRow M). r.stamp ≤ n) row rows all

  tail-within : (n : ℕ) (row : StampedRow M) (rows : List (StampedRow M)) → Within n (row ∷ rows) → Within n rows
  tail-within n row rows all = All-tail (λ (r : StampedRow M). r.stamp ≤ n) row rows all

  counter-within : (n c v : ℕ) (rows : List (StampedRow M)) → c ≤ n → Within n rows → counter_from c (entries_at rows v) ≤ n
  counter-within n c v [] le all = le
  counter-within n c v (row ∷ rows) le all =
      let tail = tail-within n row rows all in
      pick (λ es. counter_from c es ≤ n) (row.vertex == v) (without_vertex row ∷ entries_at rows v) (entries_at rows v)
      (counter-within n row.stamp v rows (head-within n row rows all) tail) (counter-within n c v rows le tail)

  puts-within : (n v w : ℕ) (rows : List (StampedRow M)) → Within n rows → All (λ s. s ≤ n) (stamps_of (puts_at rows v w))
  puts-within n v w [] all = All-nil (λ s. s ≤ n)
  puts-within n v w (row ∷ rows) all =
      let rest = puts-within n v w rows (tail-within n row rows all) in
      let P : List (Stamped M) → Type 0 = λ l. All (λ s. s ≤ n) (stamps_of (l ++ puts_at rows v w)) in
      ⊎_elim
      (λ none. subst P (sym none) rest)
      (λ one. subst P (sym one.1) (All-cons (λ s. s ≤ n) row.stamp (stamps_of (puts_at rows v w)) (head-within n row rows all) rest))
      (none_or_one (λ to. (row.vertex == v) && (to == w)) row.stamp row.entry)

  -- the stamp behind rows is at most one more than their stamps
  behind-within : (n : ℕ) (rows : List (StampedRow M)) (s v : ℕ) (entry : Entry M) → Within n rows → stamp_behind rows (stamped_row s v entry) ≤ suc n
  behind-within n rows s v (Pulse p) all = let c = counter-within n 0 v rows (omega arith) all in omega (arith, c)
  behind-within n rows s v (Put to wire) all = let c = counter-within n 0 v rows (omega arith) all in omega (arith, c)
  behind-within n rows s v (Take from wire) all =
      let c = counter-within n 0 v rows (omega arith) all in
      let w = index-within n (stamps_of (puts_at rows from v)) (length (taken_in (entries_at rows v) from)) (puts-within n from v rows all) in
      omega (arith, c, w)

  more-within : (n m : ℕ) (rows : List (StampedRow M)) → n ≤ m → Within n rows → Within m rows
  more-within n m rows le all k d lt = let x = all k d lt in omega (arith, le, x)

  -- rows behind others, one after the other
  all-within : (rows before after : List (StampedRow M)) → AreStampedRows rows → rows ≡ before ++ after → Within (length before) before
      → Within (length rows) rows
  all-within rows before [] right e all =
      let same : rows ≡ before = e ∙ append-nil before in
      subst (λ l. Within (length l) l) (sym same) all
  all-within rows before (row ∷ after) right e all =
      let one = before ++ (row ∷ []) in
      let size : length one ≡ length before + 1 = length-append before (row ∷ []) in
      let s : row.stamp ≤ suc (length before) =
      subst (λ k. k ≤ suc (length before)) (sym (right before row after e)) (behind-within (length before) before row.stamp row.vertex row.entry all) in
      let n = length one in
      all-within rows one after right (e ∙ sym (append_assoc before (row ∷ []) after))
      (All-push (λ (r : StampedRow M). r.stamp ≤ n) before row (more-within (length before) n before (omega (arith, size)) all) (omega (arith, s, size)))

  -- no stamp passes the number of rows
  pub stamps-within : (rows : List (StampedRow M)) → AreStampedRows rows → Within (length rows) rows
  stamps-within rows right = all-within rows [] rows right refl (All-nil (λ (r : StampedRow M). r.stamp ≤ 0))

  -- nor does the counter of a vertex
  pub counters-within : (rows : List (StampedRow M)) → AreStampedRows rows → (v : ℕ) → counter_of (entries_at rows v) ≤ length rows
  counters-within rows right v = counter-within (length rows) 0 v rows (omega arith) (stamps-within rows right)

module _ {S M E : Type 0} (program : Program S M E) (net : Net) where
  -- the events of a run write down as many rows
  rows-many : (k : ℕ) (events : List Event) (state last : State S M) → run_from program net k events state ≡ Ok last
      → length (rows_from program net state events) ≡ length events
  rows-many k [] state last is = refl
  rows-many k (event ∷ events) state last is =
      by-step (step program net state event) is (λ n rest. rows-many (suc k) events n last rest)
    where
      by-step : (r : Result (State S M) StepRefused) → go_on k r (λ n. run_from program net (suc k) events n) ≡ Ok last
          → ((n : State S M) → run_from program net (suc k) events n ≡ Ok last → length (rows_from program net n events) ≡ length events)
          → suc (length (if_made r (λ n. rows_from program net n events))) ≡ suc (length events)
      by-step (Ok n) is more = ap (λ l. suc l) (more n is)
      by-step (Err reason) is more = absurd cc

  -- so there are as many events as rows
  events-many : (rows : List (StampedRow M)) (last : State S M) → (is : IsReplay program net (rows_in rows) last) → length is.events ≡ length rows
  events-many rows last is =
      sym (rows-many 0 is.events (start program net) last is.is_run) ∙ ap (λ l. length l) is.rows_are
      ∙ length-map (rows_in rows) (λ row. Some row) ∙ length-map rows (λ r. without_stamp r)

  pub stamps-within-events : EventsBoundStamps program net
  stamps-within-events rows last is =
      subst (λ n. All (λ (row : StampedRow M). row.stamp ≤ n) rows) (sym (events-many rows last is.replay)) (stamps-within rows is.stamped)
