-- The table of rows with one row more at their end.
use Rattle.std.proofs.Common.{◌≡◌, ◌≢◌, ℕ, suc, ◌<◌, List, [], ◌∷◌, ◌++◌, length, refl, sym, ap, ◌∙◌, ⊎_elim, inl, inr, arith, subst}
use Rattle.std.specs.Prelude.{All, max, nat_eq, slice_index_or, Option, Some, None, false}
use Rattle.std.specs.HashMap.{get, HashMap, Updates}
use Rattle.std.specs.Option.{unwrap_or}
use Rattle.std.specs.declared.vec.Vec.{Vec}
use Rattle.std.proofs.lemmas.Bool.{cases_eq, cases_order, eq-eqb, ne_eqb}
use Rattle.std.proofs.lemmas.List.{append-nil, get_or_at, length-append, map-append}
use Rattle.std.proofs.lemmas.List.Elements.{All-get_or, All-nil, All-push, All-weaker}
use Rattle.wires.specs.declared.stamped.Stamped.{Stamped}
use Rattle.wires.specs.declared.wire.Wire.{Wire}
use Rattle.entries.specs.declared.entry.Entry.{Entry}
use Rattle.entries.specs.declared.entry.Entry.TheVariants.{Pulse, Put, Take}
use Rattle.wires.specs.StampedWires.{stamped, stamps_of}
use Rattle.stamps.specs.Stamps.{counter_of, next_stamp, taken_in}
use Rattle.entries.specs.declared.rows.StampedRow.{StampedRow}
use Rattle.entries.specs.Rows.{stamped_entry, stamped_row}
use Rattle.stamps.specs.Merged.{IsInPlace, Precedes, entries_at, puts_at, stamp_behind, takes_at}
use Rattle.stamps.specs.Table.{IsCounted, IsEmptyTable, IsPushed, IsTableOf, count_in, counter_in, items_of, list_in, same_link}
use Rattle.stamps.specs.declared.table.StampTable.{StampTable}
use Rattle.stamps.proofs.Appends.{puts_append, takes_append}
use Rattle.stamps.proofs.Lists.{entry_here, entry_other, put_here, put_other, take_here, take_other, takes_are}
use Rattle.stamps.proofs.Local.{counter_behind}
use Rattle.stamps.proofs.Unique.{entries_append}

-- the two numbers of a pair
pair_apart : (v w a b : ℕ) → (v ≡ a → w ≡ b → ⊥) → ◌≡◌ {A = ℕ × ℕ} (v, w) (a, b) → ⊥
pair_apart v w a b apart same = apart (ap (λ p. p.0) same) (ap (λ p. p.1) same)

module _ {M : Type 0} (rows : List (StampedRow M)) where
  counter_grown : (s v : ℕ) (e : Entry M) (u c c' : ℕ) → c ≡ counter_of (entries_at rows u) → (u ≡ v → c' ≡ s) → (u ≢ v → c' ≡ c)
      → c' ≡ counter_of (entries_at (rows ++ (stamped_row s v e ∷ [])) u)
  counter_grown s v e u c c' is here other =
      let all = entries_append rows (stamped_row s v e ∷ []) u in
      ⊎_elim
      (λ same.
      let one : entries_at (stamped_row s v e ∷ []) u ≡ stamped_entry s e ∷ [] = ap (λ k. entries_at (stamped_row s v e ∷ []) k) same ∙ entry_here s v e [] in
      here same ∙ sym (ap (λ l. counter_of l) (all ∙ ap (λ l. entries_at rows u ++ l) one) ∙ counter_behind 0 (entries_at rows u) (stamped_entry s e)))
      (λ ne.
      other ne ∙ is
      ∙ ap (λ l. counter_of l) (sym (all ∙ ap (λ l. entries_at rows u ++ l) (entry_other s v u e [] ne) ∙ append-nil (entries_at rows u))))
      (cases_eq u v)

  -- ---- a row that puts nothing, or takes nothing
  puts_stay : (row : StampedRow M) (a b : ℕ) → puts_at (row ∷ []) a b ≡ [] → stamps_of (puts_at rows a b) ≡ stamps_of (puts_at (rows ++ (row ∷ [])) a b)
  puts_stay row a b none =
      ap (λ l. stamps_of l) (sym (puts_append rows (row ∷ []) a b ∙ ap (λ l. puts_at rows a b ++ l) none ∙ append-nil (puts_at rows a b)))

  takes_stay : (row : StampedRow M) (a b : ℕ) → takes_at (row ∷ []) a b ≡ [] → length (takes_at rows a b) ≡ length (takes_at (rows ++ (row ∷ [])) a b)
  takes_stay row a b none =
      ap (λ l. length l) (sym (takes_append rows (row ∷ []) a b ∙ ap (λ l. takes_at rows a b ++ l) none ∙ append-nil (takes_at rows a b)))

  puts_grown : (s v w : ℕ) (x : Wire M) (a b : ℕ) (l l' : List ℕ) → l ≡ stamps_of (puts_at rows a b)
      → (◌≡◌ {A = ℕ × ℕ} (a, b) (v, w) → l' ≡ l ++ (s ∷ [])) → ((◌≡◌ {A = ℕ × ℕ} (a, b) (v, w) → ⊥) → l' ≡ l)
      → l' ≡ stamps_of (puts_at (rows ++ (stamped_row s v (Put w x) ∷ [])) a b)
  puts_grown s v w x a b l l' is here other =
      let row : StampedRow M = stamped_row s v (Put w x) in
      let apart : (a ≡ v → b ≡ w → ⊥) → l' ≡ stamps_of (puts_at (rows ++ (row ∷ [])) a b) = λ ne.
      other (λ same. pair_apart a b v w ne same) ∙ is ∙ puts_stay row a b (put_other s v w a b x [] ne) in
      ⊎_elim
      (λ first. ⊎_elim
      (λ second.
      let one : puts_at (row ∷ []) a b ≡ stamped s x ∷ [] =
      ap (λ k. puts_at (row ∷ []) k b) first ∙ ap (λ k. puts_at (row ∷ []) v k) second ∙ put_here s v w x [] in
      here (ap (λ k. (k, b)) first ∙ ap (λ k. (v, k)) second) ∙ ap (λ k. k ++ (s ∷ [])) is
      ∙ sym (ap (λ k. stamps_of k) (puts_append rows (row ∷ []) a b ∙ ap (λ k. puts_at rows a b ++ k) one)
      ∙ map-append (λ (z : Stamped M). z.stamp) (puts_at rows a b) (stamped s x ∷ [])))
      (λ ne. apart (λ _ second. ne second))
      (cases_eq b w))
      (λ ne. apart (λ first _. ne first))
      (cases_eq a v)

  takes_grown : (s v w : ℕ) (x : Wire M) (a b n n' : ℕ) → n ≡ length (takes_at rows a b)
      → (◌≡◌ {A = ℕ × ℕ} (a, b) (v, w) → n' ≡ suc n) → ((◌≡◌ {A = ℕ × ℕ} (a, b) (v, w) → ⊥) → n' ≡ n)
      → n' ≡ length (takes_at (rows ++ (stamped_row s v (Take w x) ∷ [])) a b)
  takes_grown s v w x a b n n' is here other =
      let row : StampedRow M = stamped_row s v (Take w x) in
      let apart : (a ≡ v → b ≡ w → ⊥) → n' ≡ length (takes_at (rows ++ (row ∷ [])) a b) = λ ne.
      other (λ same. pair_apart a b v w ne same) ∙ is ∙ takes_stay row a b (take_other s v w a b x [] ne) in
      ⊎_elim
      (λ first. ⊎_elim
      (λ second.
      let one : takes_at (row ∷ []) a b ≡ stamped s x ∷ [] =
      ap (λ k. takes_at (row ∷ []) k b) first ∙ ap (λ k. takes_at (row ∷ []) v k) second ∙ take_here s v w x [] in
      let more = here (ap (λ k. (k, b)) first ∙ ap (λ k. (v, k)) second) in
      let all = ap (λ k. length k) (takes_append rows (row ∷ []) a b ∙ ap (λ k. takes_at rows a b ++ k) one) in
      let sum = length-append (takes_at rows a b) (stamped s x ∷ []) in
      omega (arith, is, more, all, sum))
      (λ ne. apart (λ _ second. ne second))
      (cases_eq b w))
      (λ ne. apart (λ first _. ne first))
      (cases_eq a v)

-- What the table of rows becomes with a row that is in place.
module _ {M : Type 0} (rows : List (StampedRow M)) (old new : StampTable) (s v : ℕ) (is : IsTableOf rows old)
    (stamp : new.last_stamp ≡ s) (vertex : new.last_vertex ≡ v)
    (here : counter_in new.counters v ≡ s) (others : (q : ℕ) → q ≢ v → counter_in new.counters q ≡ counter_in old.counters q) where
  counters_with : (e : Entry M) (u : ℕ) → counter_in new.counters u ≡ counter_of (entries_at (rows ++ (stamped_row s v e ∷ [])) u)
  counters_with e u =
      counter_grown rows s v e u (counter_in old.counters u) (counter_in new.counters u) (is.counters u)
      (λ same. ap (λ k. counter_in new.counters k) same ∙ here) (others u)

  last_is : (row : StampedRow M) → Precedes (stamped_row s v (Pulse 0)) row → Precedes (stamped_row new.last_stamp new.last_vertex (Pulse 0)) row
  last_is row precedes =
      subst (λ k. Precedes (stamped_row k new.last_vertex (Pulse 0)) row) (sym stamp)
      (subst (λ k. Precedes (stamped_row s k (Pulse 0)) row) (sym vertex) precedes)

  is_last : (row : StampedRow M) → Precedes row (stamped_row s v (Pulse 0)) → Precedes row (stamped_row new.last_stamp new.last_vertex (Pulse 0))
  is_last row precedes =
      subst (λ k. Precedes row (stamped_row k new.last_vertex (Pulse 0))) (sym stamp)
      (subst (λ k. Precedes row (stamped_row s k (Pulse 0))) (sym vertex) precedes)

  below_with : (e : Entry M) → All (λ r. Precedes r (stamped_row s v e)) rows
      → All (λ r. Precedes r (stamped_row new.last_stamp new.last_vertex (Pulse 0))) (rows ++ (stamped_row s v e ∷ []))
  below_with e place =
      All-push (λ (r : StampedRow M). Precedes r (stamped_row new.last_stamp new.last_vertex (Pulse 0))) rows (stamped_row s v e)
      (All-weaker (λ (r : StampedRow M). Precedes r (stamped_row s v e))
      (λ (r : StampedRow M). Precedes r (stamped_row new.last_stamp new.last_vertex (Pulse 0)))
      (λ r before. is_last r before) rows place)
      (is_last (stamped_row s v e) (inr (refl, omega arith)))

  least_with : (e : Entry M) (row : StampedRow M) → All (λ r. Precedes r row) (rows ++ (stamped_row s v e ∷ []))
      → Precedes (stamped_row new.last_stamp new.last_vertex (Pulse 0)) row
  least_with e row all =
      let one : StampedRow M = stamped_row s v e in
      let within : length rows < length (rows ++ (one ∷ [])) = let n = length-append rows (one ∷ []) in omega (arith, n) in
      last_is row (subst (λ (r : StampedRow M). Precedes r row) (get_or_at rows one [] one (length rows) refl)
      (All-get_or (λ (r : StampedRow M). Precedes r row) (rows ++ (one ∷ [])) (length rows) one within all))

  pub with_pulse : (p : ℕ) → new.puts ≡ old.puts → new.takes ≡ old.takes → IsInPlace rows (stamped_row s v (Pulse p))
      → IsTableOf (rows ++ (stamped_row s v (Pulse p) ∷ [])) new
  with_pulse p puts takes place = record {
    counters = counters_with (Pulse p);
    puts = λ a b. ap (λ m. list_in m (a, b)) puts ∙ is.puts a b ∙ puts_stay rows (stamped_row s v (Pulse p)) a b refl;
    takes = λ a b. ap (λ m. count_in m (a, b)) takes ∙ is.takes a b ∙ takes_stay rows (stamped_row s v (Pulse p)) a b refl;
    below = below_with (Pulse p) place.0;
    least = least_with (Pulse p);
  }

  pub with_put : (w : ℕ) (x : Wire M) → IsPushed old.puts new.puts (v, w) s → new.takes ≡ old.takes → IsInPlace rows (stamped_row s v (Put w x))
      → IsTableOf (rows ++ (stamped_row s v (Put w x) ∷ [])) new
  with_put w x pushed takes place = record {
    counters = counters_with (Put w x);
    puts = λ a b. puts_grown rows s v w x a b (list_in old.puts (a, b)) (list_in new.puts (a, b)) (is.puts a b)
        (λ same. ap (λ k. list_in new.puts k) same ∙ pushed.here ∙ ap (λ k. list_in old.puts k ++ (s ∷ [])) (sym same)) (pushed.others (a, b));
    takes = λ a b. ap (λ m. count_in m (a, b)) takes ∙ is.takes a b ∙ takes_stay rows (stamped_row s v (Put w x)) a b refl;
    below = below_with (Put w x) place.0;
    least = least_with (Put w x);
  }

  pub with_take : (w : ℕ) (x : Wire M) → new.puts ≡ old.puts → IsCounted old.takes new.takes (v, w) → IsInPlace rows (stamped_row s v (Take w x))
      → IsTableOf (rows ++ (stamped_row s v (Take w x) ∷ [])) new
  with_take w x puts counted place = record {
    counters = counters_with (Take w x);
    puts = λ a b. ap (λ m. list_in m (a, b)) puts ∙ is.puts a b ∙ puts_stay rows (stamped_row s v (Take w x)) a b refl;
    takes = λ a b. takes_grown rows s v w x a b (count_in old.takes (a, b)) (count_in new.takes (a, b)) (is.takes a b)
        (λ same. ap (λ k. count_in new.takes k) same ∙ counted.here ∙ ap (λ k. suc (count_in old.takes k)) (sym same)) (counted.others (a, b));
    below = below_with (Take w x) place.0;
    least = least_with (Take w x);
  }

-- the same, of a row whose entry is known
module _ {M : Type 0} (rows : List (StampedRow M)) (old new : StampTable) (row : StampedRow M) (is : IsTableOf rows old) (place : IsInPlace rows row)
    (stamp : new.last_stamp ≡ row.stamp) (vertex : new.last_vertex ≡ row.vertex)
    (set : (counter_in new.counters row.vertex ≡ row.stamp) × ((q : ℕ) → q ≢ row.vertex → counter_in new.counters q ≡ counter_in old.counters q)) where
  placed : (e : Entry M) → row.entry ≡ e → IsInPlace rows (stamped_row row.stamp row.vertex e)
  placed e same = subst (λ e. IsInPlace rows (stamped_row row.stamp row.vertex e)) same place

  told : (e : Entry M) → row.entry ≡ e → IsTableOf (rows ++ ((stamped_row row.stamp row.vertex e) ∷ [])) new → IsTableOf (rows ++ (row ∷ [])) new
  told e same table = subst (λ e. IsTableOf (rows ++ ((stamped_row row.stamp row.vertex e) ∷ [])) new) (sym same) table

  pub row_pulse : (p : ℕ) → row.entry ≡ Pulse p → new.puts ≡ old.puts → new.takes ≡ old.takes → IsTableOf (rows ++ (row ∷ [])) new
  row_pulse p same puts takes =
      told (Pulse p) same (with_pulse rows old new row.stamp row.vertex is stamp vertex set.0 set.1 p puts takes (placed (Pulse p) same))

  pub row_put : (w : ℕ) (x : Wire M) → row.entry ≡ Put w x → IsPushed old.puts new.puts (row.vertex, w) row.stamp → new.takes ≡ old.takes
      → IsTableOf (rows ++ (row ∷ [])) new
  row_put w x same pushed takes =
      told (Put w x) same (with_put rows old new row.stamp row.vertex is stamp vertex set.0 set.1 w x pushed takes (placed (Put w x) same))

  pub row_take : (w : ℕ) (x : Wire M) → row.entry ≡ Take w x → new.puts ≡ old.puts → IsCounted old.takes new.takes (row.vertex, w)
      → IsTableOf (rows ++ (row ∷ [])) new
  row_take w x same puts counted =
      told (Take w x) same (with_take rows old new row.stamp row.vertex is stamp vertex set.0 set.1 w x puts counted (placed (Take w x) same))

-- the stamp of a take
pub take_next : {M : Type 0} (rows : List (StampedRow M)) (table : StampTable) (row : StampedRow M) (w : ℕ) (x : Wire M) (counter wire : ℕ)
    → IsTableOf rows table → row.entry ≡ Take w x → counter ≡ counter_in table.counters row.vertex
    → wire ≡ slice_index_or (list_in table.puts (w, row.vertex)) (count_in table.takes (row.vertex, w)) 0 → suc (max counter wire) ≡ stamp_behind rows row
take_next rows table row w x counter wire is same at_counter at_wire =
    let v = row.vertex in
    let a : counter ≡ counter_of (entries_at rows v) = at_counter ∙ is.counters v in
    let b : wire ≡ slice_index_or (stamps_of (puts_at rows w v)) (length (taken_in (entries_at rows v) w)) 0 =
    at_wire ∙ ap (λ l. slice_index_or l (count_in table.takes (v, w)) 0) (is.puts w v)
    ∙ ap (λ n. slice_index_or (stamps_of (puts_at rows w v)) n 0) (is.takes v w ∙ ap (λ l. length l) (takes_are rows v w)) in
    ap (λ n. suc (max n wire)) a ∙ ap (λ n. suc (max (counter_of (entries_at rows v)) n)) b
    ∙ ap (λ e. next_stamp (λ u. stamps_of (puts_at rows u v)) (entries_at rows v) e) (sym same)

-- ---- maps
-- another link
link_apart : (a q : ℕ × ℕ) → (q ≡ a → ⊥) → same_link a q ≡ false
link_apart a q ne = ⊎_elim
    (λ first. ⊎_elim
    (λ second. let pair : q ≡ a = ap (λ k. (k, q.1)) (sym first) ∙ ap (λ k. (a.0, k)) (sym second) in absurd (ne pair))
    (λ other. let yes = eq-eqb a.0 q.0 first in let no = ne_eqb a.1 q.1 other in rw yes (rw no refl))
    (cases_eq a.1 q.1))
    (λ other. let no = ne_eqb a.0 q.0 other in rw no refl)
    (cases_eq a.0 q.0)

module _ {S : Type 0} where
  pub counter_set : (old new : HashMap ℕ ℕ S) (v s : ℕ) → Updates nat_eq old new v (Some s)
      → (counter_in new v ≡ s) × ((q : ℕ) → q ≢ v → counter_in new q ≡ counter_in old q)
  counter_set old new v s updates = (
    ap (λ o. unwrap_or o 0) updates.1,
    λ q ne. ap (λ o. unwrap_or o 0) (updates.2 q (ne_eqb v q (λ e. ne (sym e)))),
  )

  pub counted_by : (old new : HashMap (ℕ × ℕ) ℕ S) (link : ℕ × ℕ) (n : ℕ) → Updates same_link old new link (Some n) → n ≡ suc (count_in old link)
      → IsCounted old new link
  counted_by old new link n updates is = record {
    here = ap (λ o. unwrap_or o 0) updates.1 ∙ is;
    others = λ q ne. ap (λ o. unwrap_or o 0) (updates.2 q (link_apart link q ne));
  }

items_or : {A : Type 0} (o : Option (Vec ℕ A)) (list : Vec ℕ A) → list.items ≡ [] → (unwrap_or o list).items ≡ items_of o
items_or None list none = none
items_or (Some there) list none = refl

module _ {S A : Type 0} where
  pub pushed_by : (old new : HashMap (ℕ × ℕ) (Vec ℕ A) S) (link : ℕ × ℕ) (item : ℕ) (empty was is : Vec ℕ A) → Updates same_link old new link (Some is)
      → was ≡ unwrap_or (get same_link old link) empty → empty.items ≡ [] → is.items ≡ was.items ++ (item ∷ []) → IsPushed old new link item
  pushed_by old new link item empty was is updates before none push = record {
    here = ap (λ o. items_of o) updates.1 ∙ push
        ∙ ap (λ l. l ++ (item ∷ [])) (ap (λ (v : Vec ℕ A). v.items) before ∙ items_or (get same_link old link) empty none);
    others = λ q ne. ap (λ o. items_of o) (updates.2 q (link_apart link q ne));
  }

-- no row comes before the stamp and vertex 0
from_start : {M : Type 0} (row : StampedRow M) → Precedes (stamped_row 0 0 (Pulse 0)) row
from_start row = ⊎_elim (λ zero. inr (zero, omega arith)) (λ side. ⊎_elim (λ lt. inl lt) (λ gt. absurd (omega (arith, gt))) side) (cases_order 0 row.stamp)

pub empty_table : {M : Type 0} (table : StampTable) → IsEmptyTable table → IsTableOf {M = M} [] table
empty_table {M} table empty = record {
  counters = empty.counters;
  puts = λ v w. empty.puts (v, w);
  takes = λ v w. empty.takes (v, w);
  below = All-nil (λ (r : StampedRow M). Precedes r (stamped_row table.last_stamp table.last_vertex (Pulse 0)));
  least = λ row all. subst (λ k. Precedes (stamped_row k table.last_vertex (Pulse 0)) row) (sym empty.stamp)
      (subst (λ k. Precedes (stamped_row 0 k (Pulse 0)) row) (sym empty.vertex) (from_start row));
}
