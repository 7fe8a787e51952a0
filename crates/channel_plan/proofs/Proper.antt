-- A plan without a fault is proper, and a proper plan has no fault.
-- Without a fault each row is good after those before it, so a vertex has at most one row; none is missing,
-- so it has one; and no two neighbours have one channel in the table, which is the channel of their rows.
use Rattle.std.proofs.Common.{◌≡◌, ◌<◌, ◌≤◌, ◌+◌, ◌-◌, ◌++◌, ◌∷◌, [], inl, inr, ◌==◌, ◌&&◌, ◌∙◌, ℕ, Bool, true, false, Option, Some, None, List, All, arith, ap}
use Rattle.std.proofs.Common.{append_assoc, cond, get_or, if◌then◌else◌, is_none, is_some, nat_lt, not, refl, subst, sym}
use Rattle.std.proofs.lemmas.Bool.{cases_order, eqb-true, lt-ltb, ltb-false}
use Rattle.std.proofs.lemmas.Bool.Decides.{nat_tests}
use Rattle.std.proofs.lemmas.List.Elements.{All-contains, All-from_recursion, Contains-append_right, Contains-get_or, recursion_from_All}
use Rattle.std.proofs.lemmas.List.FromFn.{get_or-range_with_len, length-range_with_len}
use Rattle.std.specs.List.{AllByRecursion, Contains, find}
use Rattle.std.specs.Option.{option_map, option_or}
use Rattle.dimacs_col.proofs.Verdicts.{none-from}
use Rattle.interference.specs.Net.{IsNetwork, IsVertex, Net, count_of, neighbours, vertices}
use Rattle.interference.proofs.Neighbours.{both-ways, neighbour-is_vertex, port-of}
use Rattle.channel_plan.specs.Checked.{Channels, IsProper, channel_of, clash_among, clash_at, clashes, fault_of}
use Rattle.channel_plan.specs.Checked.{first_missing, is_channel_barred, is_vertex, most_channel, row_fault, rows_fault, same_channel}
use Rattle.channel_plan.specs.Reading.{Row}
use Rattle.channel_plan.specs.declared.plan.CheckFault.{CheckFault}
use Rattle.channel_plan.specs.declared.plan.CheckFault.TheVariants.{Clash, Missing}
use Rattle.channel_plan.proofs.Barred.{barred-channel, unbarred-channel}
use Rattle.channel_plan.proofs.Counts.{channel-contains, contains-channel, count-append, count-some, counted, same-vertex, none-count, row_count, some-count}
use Rattle.channel_plan.proofs.Tables.{channel-push, or-nothing, row-good}

-- ---- what is none
or-none-both : {T : Type 0} (o p : Option T) → option_or o p ≡ None → (o ≡ None) × (p ≡ None)
or-none-both None p e = (refl, e)
or-none-both (Some x) p e = absurd cc

map-none : {T U : Type 0} (f : T → U) (o : Option T) → option_map f o ≡ None → o ≡ None
map-none f None e = refl
map-none f (Some x) e = absurd cc

find-none : (p : ℕ → Bool) (xs : List ℕ) → find p xs ≡ None → AllByRecursion (λ x. p x ≡ false) xs
find-none p [] e = tt
find-none p (x ∷ xs) e = none-by (p x) refl e (find-none p xs)
  where
    none-by : (b : Bool) → p x ≡ b → find p (x ∷ xs) ≡ None → (find p xs ≡ None → AllByRecursion (λ y. p y ≡ false) xs) →
        AllByRecursion (λ y. p y ≡ false) (x ∷ xs)
    none-by true t e more = let s : Some x ≡ None = (rw t at e) in absurd cc
    none-by false t e more = (t, more (rw t at e))

none-find : (p : ℕ → Bool) (xs : List ℕ) → AllByRecursion (λ x. p x ≡ false) xs → find p xs ≡ None
none-find p [] all = refl
none-find p (x ∷ xs) all = rw all.0 (none-find p xs all.1)

clash-none : (net : Net) (channels : Channels) (vs : List ℕ) → clash_among net channels vs ≡ None → AllByRecursion (λ v. clash_at net channels v ≡ None) vs
clash-none net channels [] e = tt
clash-none net channels (v ∷ vs) e = let both = or-none-both (clash_at net channels v) (clash_among net channels vs) e in
    (both.0, clash-none net channels vs both.1)

none-clash : (net : Net) (channels : Channels) (vs : List ℕ) → AllByRecursion (λ v. clash_at net channels v ≡ None) vs → clash_among net channels vs ≡ None
none-clash net channels [] all = refl
none-clash net channels (v ∷ vs) all = rw all.0 (none-clash net channels vs all.1)

-- the vertices are all in their list, and nothing else is
vertex-in : (net : Net) (v : ℕ) → IsVertex net v → Contains (vertices net) v
vertex-in net v h =
    let size = length-range_with_len 1 (count_of net) in
    let is : get_or (vertices net) (v - 1) v ≡ v = get_or-range_with_len 1 (count_of net) (v - 1) v (omega (arith, h.0, h.1)) ∙ omega (arith, h.0) in
    (v - 1, omega (arith, size, h.0, h.1), is)

pub vertices-are : (net : Net) → All (IsVertex net) (vertices net)
vertices-are net = λ k d below.
    let size = length-range_with_len 1 (count_of net) in
    let is = get_or-range_with_len 1 (count_of net) k d (omega (arith, size, below)) in
    (omega (arith, is), omega (arith, is, size, below))

-- ---- from no fault
four : (a b d g : Bool) (x y z u : CheckFault) →
    (if not a then Some x else (if b then Some y else (if d then Some z else (if g then Some u else None)))) ≡ None →
    (a ≡ true) × (b ≡ false) × (d ≡ false) × (g ≡ false)
four true false false false x y z u e = (refl, refl, refl, refl)
four true false false true x y z u e = absurd cc
four true false true g x y z u e = absurd cc
four true true d g x y z u e = absurd cc
four false b d g x y z u e = absurd cc

-- a row that is good after some rows
record IsGood (net : Net) (before : List Row) (row : Row) : Type 0 where
  vertex : IsVertex net row.0
  free : channel_of before row.0 ≡ None
  within : row.1 ≤ most_channel net
  unbarred : is_channel_barred net row.0 row.1 ≡ false

vertex-from : (net : Net) (v : ℕ) → is_vertex net v ≡ true → IsVertex net v
vertex-from net v e = (grind (arith, nat_tests), grind (arith, nat_tests))

row-none : (net : Net) (before : List Row) (row : Row) → row_fault net before row ≡ None → IsGood net before row
unfolding row_fault
row-none net before row e =
    let p = four (is_vertex net row.0) (is_some (channel_of before row.0)) (nat_lt (most_channel net) row.1)
    (is_channel_barred net row.0 row.1) _ _ _ _ e in record {
      vertex = vertex-from net row.0 p.0;
      free = none-from (channel_of before row.0) p.1;
      within = ltb-false (most_channel net) row.1 p.2;
      unbarred = p.3;
    }

rows-cons : (net : Net) (before : List Row) (row : Row) (rows : List Row) → rows_fault net before (row ∷ rows) ≡ None → IsGood net before row ×
    (rows_fault net (before ++ row ∷ []) rows ≡ None)
unfolding rows_fault
rows-cons net before row rows e = let both = or-none-both (row_fault net before row) (rows_fault net (before ++ row ∷ []) rows) e in
    (row-none net before row both.0, both.1)

-- what is right with a row, whatever rows are before it
abbrev IsRight : Net → Row → Type 0
IsRight net row = IsVertex net row.0 × (row.1 ≤ most_channel net) × (is_channel_barred net row.0 row.1 ≡ false)

each-within : (net : Net) (before rows : List Row) → rows_fault net before rows ≡ None → AllByRecursion (IsRight net) rows
each-within net before [] e = tt
each-within net before (row ∷ rows) e = let p = rows-cons net before row rows e in
    ((p.0.vertex, p.0.within, p.0.unbarred), each-within net (before ++ row ∷ []) rows p.1)

or-some : (o : Option ℕ) (x : ℕ) → is_some (option_or o (Some x)) ≡ true
or-some None x = refl
or-some (Some y) x = refl

-- after a row of its own a vertex has no other; before it has one at most
one-at-most : (net : Net) (before rows : List Row) (v : ℕ) → rows_fault net before rows ≡ None → (is_some (channel_of before v) ≡ true → row_count rows v ≡ 0)
    × (row_count rows v ≤ 1)
one-at-most net before [] v e = (λ h. refl, omega arith)
one-at-most net before (row ∷ rows) v e =
    let p = rows-cons net before row rows e in
    most-by (row.0 == v) refl p.0.free (one-at-most net (before ++ row ∷ []) rows v p.1)
  where
    most-by : (b : Bool) → (row.0 == v) ≡ b → channel_of before row.0 ≡ None → (is_some (channel_of (before ++ row ∷ []) v) ≡ true → row_count rows v ≡ 0) ×
        (row_count rows v ≤ 1) → (is_some (channel_of before v) ≡ true → row_count (row ∷ rows) v ≡ 0) × (row_count (row ∷ rows) v ≤ 1)
    most-by true t free more =
        let same : row.0 ≡ v = eqb-true row.0 v t in
        let pushed : channel_of (before ++ row ∷ []) v ≡ option_or (channel_of before v) (Some row.1) = channel-push before row v ∙
        ap (λ b. option_or (channel_of before v) (cond b (Some row.1) None)) t in
        let none : row_count rows v ≡ 0 = more.0 (ap is_some pushed ∙ or-some (channel_of before v) row.1) in
        (λ h. let n : false ≡ true = sym (ap is_some (sym (ap (channel_of before) same) ∙ free)) ∙ h in absurd cc, rw t (omega (arith, none)))
    most-by false t free more =
        let pushed : channel_of (before ++ row ∷ []) v ≡ option_or (channel_of before v) None = channel-push before row v ∙
        ap (λ b. option_or (channel_of before v) (cond b (Some row.1) None)) t in
        (λ h. rw t (more.0 (ap is_some (pushed ∙ or-nothing (channel_of before v)) ∙ h)), rw t more.1)

one-from : (rows : List Row) (v : ℕ) → row_count rows v ≤ 1 → is_none (channel_of rows v) ≡ false → row_count rows v ≡ 1
one-from rows v most some = let e = count-some rows v (not-false (is_some (channel_of rows v)) some) in omega arith
  where
    not-false : (b : Bool) → not b ≡ false → b ≡ true
    not-false true e = refl
    not-false false e = absurd cc

not-own : (net : Net) → IsNetwork net → (v w : ℕ) → IsVertex net v → Contains (neighbours net v) w → v ≡ w → ⊥
not-own net is v w hv hw same = let (port, below, at) = port-of net is v w hw in is.other v port hv below (at ∙ sym same)

-- the channels of two neighbours differ where there is no clash
no-clash : (net : Net) (channels : Channels) (v w channel : ℕ) → clash_among net channels (vertices net) ≡ None → IsVertex net v →
    Contains (neighbours net v) w → v < w → channels v ≡ Some channel → channels w ≡ Some channel → ⊥
no-clash net channels v w channel e hv hw below ev ew =
    let at_v : clash_at net channels v ≡ None = All-contains (λ u. clash_at net channels u ≡ None) (vertices net) v
    (All-from_recursion (λ u. clash_at net channels u ≡ None) (vertices net) (clash-none net channels (vertices net) e)) (vertex-in net v hv) in
    let none = find-none (clashes channels v) (neighbours net v) (map-none (λ (u : ℕ). (v, u)) (find (clashes channels v) (neighbours net v)) at_v) in
    let no : clashes channels v w ≡ false = All-contains (λ u. clashes channels v u ≡ false) (neighbours net v) w
    (All-from_recursion (λ u. clashes channels v u ≡ false) (neighbours net v) none) hw in
    let yes : clashes channels v w ≡ true = rw (lt-ltb v w below, ev, ew) (same-vertex channel) in
    let wrong : true ≡ false = sym yes ∙ no in absurd cc

pub proper-from : (net : Net) (rows : List Row) → IsNetwork net → fault_of net rows ≡ None → IsProper net rows
unfolding fault_of
proper-from net rows is e =
    let first = or-none-both (rows_fault net [] rows) _ e in
    let second = or-none-both (option_map Missing (first_missing net (channel_of rows))) _ first.1 in
    let none_missing = find-none (λ v. is_none (channel_of rows v)) (vertices net) (map-none Missing (first_missing net (channel_of rows)) second.0) in
    let none_clash : clash_among net (channel_of rows) (vertices net) ≡ None =
    map-none (λ (pair : ℕ × ℕ). Clash pair.0 pair.1) (clash_among net (channel_of rows) (vertices net)) second.1 in
    let right = All-from_recursion (IsRight net) rows (each-within net [] rows first.0) in
    let most : (v : ℕ) → row_count rows v ≤ 1 = λ v. (one-at-most net [] rows v first.0).1 in
    let known : (v channel : ℕ) → Contains rows (v, channel) → channel_of rows v ≡ Some channel = λ v channel h. channel-contains rows v channel h (most v) in
    record {
      one_row = λ v h. sym (counted rows v) ∙ one-from rows v (most v) (All-contains (λ u. is_none (channel_of rows u) ≡ false) (vertices net) v
          (All-from_recursion (λ u. is_none (channel_of rows u) ≡ false) (vertices net) none_missing) (vertex-in net v h));
      no_stranger = λ row h. (All-contains (IsRight net) rows row right h).0;
      within = λ row h. (All-contains (IsRight net) rows row right h).1;
      unbarred = λ v colour h barred.
          let free = (All-contains (IsRight net) rows (v, colour + 1) right h).2 in
          let wrong : true ≡ false = sym (barred-channel net v colour barred) ∙ free in
          absurd cc;
      differ = λ v w channel edge cv cw. elim (cases_order v w) [
        | inl same ↦ not-own net is v w edge.0 edge.1 same
        | inr other ↦ elim other [
          | inl below ↦ no-clash net (channel_of rows) v w channel none_clash edge.0 edge.1 below (known v channel cv) (known w channel cw)
          | inr above ↦ no-clash net (channel_of rows) w v channel none_clash (neighbour-is_vertex net is v w edge.0 edge.1)
              (both-ways net is v w edge.0 edge.1) above (known w channel cw) (known v channel cv)
        ]
      ];
    }

-- ---- from a proper plan
not-barred : (net : Net) (rows : List Row) (row : Row) → IsProper net rows → Contains rows row → is_channel_barred net row.0 row.1 ≡ false
not-barred net rows row is here = unbarred-channel net row.0 row.1
    (λ colour same barred. is.unbarred row.0 colour (subst (λ channel. Contains rows (row.0, channel)) same here) barred)

rows-right : (net : Net) (before rows : List Row) → IsProper net (before ++ rows) → rows_fault net before rows ≡ None
unfolding rows_fault
rows-right net before [] is = refl
rows-right net before (row ∷ rows) is =
    let here : Contains (before ++ row ∷ rows) row = Contains-append_right before (row ∷ rows) row (0, omega arith, refl) in
    let vertex = is.no_stranger row here in
    let one : row_count before row.0 + row_count (row ∷ rows) row.0 ≡ 1 = sym (count-append before (row ∷ rows) row.0) ∙
    counted (before ++ row ∷ rows) row.0 ∙ is.one_row row.0 vertex in
    let own : row_count (row ∷ rows) row.0 ≡ 1 + row_count rows row.0 = rw (same-vertex row.0) refl in
    let free = none-count before row.0 (omega (arith, one, own)) in
    let good = row-good net before row vertex (ap is_some free) (is.within row here) (not-barred net (before ++ row ∷ rows) row is here) in
    let left = rows-right net (before ++ row ∷ []) rows (subst (IsProper net) (sym (append_assoc before (row ∷ []) rows)) is) in
    rw (good, left) refl

-- the channel that two vertices share
shared : (o p : Option ℕ) → same_channel o p ≡ true → (channel : ℕ) × (o ≡ Some channel) × (p ≡ Some channel)
shared None p e = absurd cc
shared (Some a) None e = absurd cc
shared (Some a) (Some b) e = (a, refl, ap Some (sym (eqb-true a b e)))

and-false : (b : Bool) → (b && false) ≡ false
and-false true = refl
and-false false = refl

no-channel : (net : Net) (rows : List Row) → IsProper net rows → (v w : ℕ) → IsVertex net v → Contains (neighbours net v) w →
    clashes (channel_of rows) v w ≡ false
no-channel net rows is v w hv hw = no-by (same_channel (channel_of rows v) (channel_of rows w)) refl
  where
    no-by : (b : Bool) → same_channel (channel_of rows v) (channel_of rows w) ≡ b → clashes (channel_of rows) v w ≡ false
    no-by true e =
        let s = shared (channel_of rows v) (channel_of rows w) e in
        absurd (is.differ v w s.0 (hv, hw) (contains-channel rows v s.0 s.1) (contains-channel rows w s.0 s.2))
    no-by false e = rw e (and-false (nat_lt v w))

has-channel : (net : Net) (rows : List Row) → IsProper net rows → (v : ℕ) → IsVertex net v → is_none (channel_of rows v) ≡ false
has-channel net rows is v h = let one : row_count rows v ≡ 1 = counted rows v ∙ is.one_row v h in ap not (some-count rows v (omega (arith, one)))

pub fault-from : (net : Net) (rows : List Row) → IsProper net rows → fault_of net rows ≡ None
unfolding fault_of
fault-from net rows is =
    let none_missing = none-find (λ v. is_none (channel_of rows v)) (vertices net) (recursion_from_All (λ v. is_none (channel_of rows v) ≡ false)
    (vertices net) (λ k d below. has-channel net rows is _ (vertices-are net k d below))) in
    let at_each : All (λ v. clash_at net (channel_of rows) v ≡ None) (vertices net) = λ k d below.
    let v = get_or (vertices net) k d in
    let none = none-find (clashes (channel_of rows) v) (neighbours net v) (recursion_from_All (λ w. clashes (channel_of rows) v w ≡ false) (neighbours net v)
    (λ i e within. no-channel net rows is v (get_or (neighbours net v) i e) (vertices-are net k d below) (Contains-get_or (neighbours net v) i e within)))
    in
    ap (option_map (λ (w : ℕ). (v, w))) none in
    let none_clash = none-clash net (channel_of rows) (vertices net) (recursion_from_All (λ v. clash_at net (channel_of rows) v ≡ None) (vertices net)
    at_each) in
    rw (rows-right net [] rows is, none_missing, none_clash) refl
