-- The table of the rows so far, and what is wrong with the next row.
use Rattle.std.proofs.Common.{◌≡◌, ◌≢◌, ◌<◌, ◌≤◌, ◌+◌, ◌-◌, ◌++◌, ◌∷◌, [], ◌⊎◌, ◌==◌, ◌∙◌, ℕ, Bool, true, false, Option, Some, None, List, arith, ap, get_or}
use Rattle.std.proofs.Common.{if◌then◌else◌, is_some, length, refl, set, sym, replicate, take, drop}
use Rattle.std.proofs.lemmas.Bool.{le-ltb, lt-ltb, eqb-true, eqb-false}
use Rattle.std.proofs.lemmas.Bool.Decides.{nat_tests}
use Rattle.std.proofs.lemmas.List.{at_drop_all, at_drop_more, get_or-replicate, get_or-set_other, get_or-set_same, length-replicate, length-set, take_more}
use Rattle.std.specs.Option.{option_or}
use Rattle.dimacs_col.proofs.Verdicts.{none-from}
use Rattle.interference.specs.Net.{Net, IsVertex, count_of}
use Rattle.channel_plan.specs.Checked.{IsFaultOfRow, IsTable, channel_of, is_channel_barred, is_vertex, channels_in, most_channel, row_fault, rows_fault}
use Rattle.channel_plan.specs.Reading.{Row}
use Rattle.channel_plan.specs.declared.plan.CheckFault.{CheckFault}
use Rattle.channel_plan.specs.declared.plan.CheckFault.TheVariants.{Barred, Clash, Memory, Missing, Stranger, Syntax, TooHigh, Twice}

channel-cons : (first row : Row) (rows : List Row) (w : ℕ) (b : Bool) → (first.0 == w) ≡ b →
    channel_of (rows ++ row ∷ []) w ≡ option_or (channel_of rows w) (if row.0 == w then Some row.1 else None) →
    channel_of (first ∷ rows ++ row ∷ []) w ≡ option_or (channel_of (first ∷ rows) w) (if row.0 == w then Some row.1 else None)
channel-cons first row rows w true e more = rw e refl
channel-cons first row rows w false e more = rw e more

-- the channels of one row more
pub channel-push : (rows : List Row) (row : Row) (w : ℕ) → channel_of (rows ++ row ∷ []) w
    ≡ option_or (channel_of rows w) (if row.0 == w then Some row.1 else None)
channel-push [] row w = refl
channel-push (first ∷ rows) row w = channel-cons first row rows w (first.0 == w) refl (channel-push rows row w)

-- ---- what is wrong with a row
pub row-stranger : (net : Net) (before : List Row) (row : Row) → (row.0 ≡ 0) ⊎ (count_of net < row.0) → row_fault net before row ≡ Some (Stranger row.0)
unfolding row_fault
row-stranger net before row h = let e : is_vertex net row.0 ≡ false = grind (arith, nat_tests) in rw e refl

vertex-is : (net : Net) (v : ℕ) → IsVertex net v → is_vertex net v ≡ true
vertex-is net v h = grind (arith, nat_tests)

pub row-twice : (net : Net) (before : List Row) (row : Row) → IsVertex net row.0 → is_some (channel_of before row.0) ≡ true →
    row_fault net before row ≡ Some (Twice row.0)
unfolding row_fault
row-twice net before row h e = rw (vertex-is net row.0 h, e) refl

pub row-high : (net : Net) (before : List Row) (row : Row) → IsVertex net row.0 → is_some (channel_of before row.0) ≡ false → most_channel net < row.1 →
    row_fault net before row ≡ Some (TooHigh row.0)
unfolding row_fault
row-high net before row h e high = rw (vertex-is net row.0 h, e, lt-ltb (most_channel net) row.1 high) refl

pub row-good : (net : Net) (before : List Row) (row : Row) → IsVertex net row.0 → is_some (channel_of before row.0) ≡ false → row.1 ≤ most_channel net →
    is_channel_barred net row.0 row.1 ≡ false → row_fault net before row ≡ None
unfolding row_fault
row-good net before row h e low free = rw (vertex-is net row.0 h, e, le-ltb (most_channel net) row.1 low, free) refl

pub row-barred : (net : Net) (before : List Row) (row : Row) → IsVertex net row.0 → is_some (channel_of before row.0) ≡ false → row.1 ≤ most_channel net →
    is_channel_barred net row.0 row.1 ≡ true → row_fault net before row ≡ Some (Barred row.0)
unfolding row_fault
row-barred net before row h e low barred = rw (vertex-is net row.0 h, e, le-ltb (most_channel net) row.1 low, barred) refl

-- ---- the table
pub table-none : (net : Net) (table : List (Option ℕ)) → table ≡ replicate (count_of net) None → IsTable net [] table
table-none net table is = record {
  size = ap length is ∙ length-replicate (count_of net) None;
  each = λ v h. ap (λ (xs : List (Option ℕ)). get_or xs (v - 1) None) is ∙ get_or-replicate (count_of net) (v - 1) None None (omega (arith, h.0, h.1));
}

pub or-nothing : (o : Option ℕ) → option_or o None ≡ o
or-nothing None = refl
or-nothing (Some x) = refl

pub table-put : (net : Net) (before : List Row) (v channel : ℕ) (table : List (Option ℕ)) → IsTable net before table → IsVertex net v →
    is_some (channels_in table v) ≡ false → IsTable net (before ++ (v, channel) ∷ []) (set table (v - 1) (Some channel))
table-put net before v channel table is here none = record {
  size = length-set table (v - 1) (Some channel) ∙ is.size;
  each = λ w h. put-at w h (v == w) refl;
}
  where
    put-at : (w : ℕ) → IsVertex net w → (b : Bool) → (v == w) ≡ b
        → channels_in (set table (v - 1) (Some channel)) w ≡ channel_of (before ++ (v, channel) ∷ []) w
    put-at w h true e =
        let same : v ≡ w = eqb-true v w e in
        let free : channel_of before w ≡ None = sym (is.each w h) ∙ ap (channels_in table) (sym same) ∙ none-from (channels_in table v) none in
        let place : w - 1 ≡ v - 1 = ap (λ x. x - 1) (sym same) in
        ap (λ i. get_or (set table (v - 1) (Some channel)) i None) place ∙
        get_or-set_same table (v - 1) (Some channel) None (omega (arith, here.0, here.1, is.size))
        ∙ sym (channel-push before (v, channel) w ∙ rw (free, e) refl)
    put-at w h false e =
        let apart : w - 1 ≢ v - 1 = (let ne = eqb-false v w e in omega (arith, ne, here.0, h.0)) in
        get_or-set_other table (v - 1) (w - 1) (Some channel) None apart ∙ is.each w h
        ∙ sym (channel-push before (v, channel) w ∙ rw e (or-nothing (channel_of before w)))

-- ---- all rows
-- the fault of the rows that are left, where the next one has or has none
pub rows-more : (net : Net) (rows : List Row) (i : ℕ) (row : Row) (fault : Option CheckFault) → i < length rows → row ≡ get_or rows i row →
    row_fault net (take i rows) row ≡ fault → rows_fault net (take i rows) (drop i rows)
    ≡ option_or fault (rows_fault net (take (i + 1) rows) (drop (i + 1) rows))
unfolding rows_fault
rows-more net rows i row fault below is e =
    at_drop_more (rows_fault net (take i rows)) rows i row below
    ∙ ap (λ r. option_or (row_fault net (take i rows) r) (rows_fault net (take i rows ++ r ∷ []) (drop (i + 1) rows))) (sym is)
    ∙ ap (λ f. option_or f (rows_fault net (take i rows ++ row ∷ []) (drop (i + 1) rows))) e
    ∙ ap (λ before. option_or fault (rows_fault net before (drop (i + 1) rows))) (ap (λ r. take i rows ++ r ∷ []) is ∙ sym (take_more rows i row below))

pub rows-end : (net : Net) (before rows : List Row) (i : ℕ) → length rows ≤ i → rows_fault net before (drop i rows) ≡ None
unfolding rows_fault
rows-end net before rows i end = at_drop_all (rows_fault net before) rows i end

-- the fault of the next row is the fault of the rows
pub fault-here : (wrong left all : Option CheckFault) (fault : CheckFault) → IsFaultOfRow wrong fault → all ≡ option_or wrong left → IsFaultOfRow all fault
fault-here wrong left all Memory is e = tt
fault-here wrong left all (Missing v) is e = e ∙ ap (λ f. option_or f left) is
fault-here wrong left all (Stranger v) is e = e ∙ ap (λ f. option_or f left) is
fault-here wrong left all (Twice v) is e = e ∙ ap (λ f. option_or f left) is
fault-here wrong left all (Clash v w) is e = e ∙ ap (λ f. option_or f left) is
fault-here wrong left all (TooHigh v) is e = e ∙ ap (λ f. option_or f left) is
fault-here wrong left all (Barred v) is e = e ∙ ap (λ f. option_or f left) is
fault-here wrong left all (Syntax n) is e = e ∙ ap (λ f. option_or f left) is
