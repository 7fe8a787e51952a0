-- Reading an inbox by its marks: how many are before the cursor, and the payload that comes next.
use Rattle.std.proofs.Common.{◌≡◌, ℕ, zero, suc, ◌+◌, ◌-◌, ◌<◌, ◌≤◌, Bool, true, false, List, [], ◌∷◌, length, get_or, take, cond, refl, ap, sym, ◌∙◌, arith}
use Rattle.std.specs.Prelude.{Some, IsTrue, ◌↔◌, nat_lt, slice_get}
use Rattle.std.proofs.lemmas.Bool.Decides.{nat_tests}
use Rattle.std.proofs.lemmas.List.Sums.{sum_by_more}
use Rattle.node_api.specs.Marks.{count_marks, is_marked}
use Rattle.node_api.proofs.Counting.{count-cons, count-some}
use Rattle.node_api.specs.Boxes.{at_port, Reads, HasFrom}
use Rattle.node_api.specs.Slots.{slots_of, AreMade, IsRead}
use Rattle.node_api.proofs.Slots.{length-slots_of, at-unmarked, at-marked, marked-some, some-marked}

-- an entry that was read
pub get-read : {M : Type 0} (xs : List M) (k : ℕ) (x : M) → k < length xs → x ≡ get_or xs k x → slice_get xs k ≡ Some x
get-read [] k x h e = absurd (omega arith)
get-read (y ∷ xs) zero x h e = ap (λ z. Some z) (sym e)
get-read (y ∷ xs) (suc k) x h e = get-read xs k x (omega arith) e

-- how many marks are before a place
count-take : (marks : List Bool) (i : ℕ) → i < length marks → count_marks (take (i + 1) marks) ≡ count_marks (take i marks) + cond (is_marked marks i) 1 0
count-take marks i h = sum_by_more (λ x. cond x 1 0) marks i false h

-- more are marked than before the cursor exactly if one is marked from it on
pub count-some_from : (marks : List Bool) (cursor k : ℕ) → cursor ≤ k → is_marked marks k ≡ true → count_marks (take cursor marks) < count_marks marks
count-some_from [] cursor k later e = absurd (let wrong : false ≡ true = e in cc)
count-some_from (b ∷ marks) zero k later e = count-some (b ∷ marks) k e
count-some_from (b ∷ marks) (suc cursor) zero later e = absurd (omega arith)
count-some_from (b ∷ marks) (suc cursor) (suc k) later e =
    omega (arith, count-cons b (take cursor marks), count-cons b marks, count-some_from marks cursor k (omega arith) e)

pub count-from_some : (marks : List Bool) (cursor : ℕ) → count_marks (take cursor marks) < count_marks marks →
    (k : ℕ) × (cursor ≤ k) × (k < length marks) × (is_marked marks k ≡ true)
count-from_some [] cursor h = absurd (omega (arith, h))
count-from_some (true ∷ marks) zero h = (0, omega arith, omega arith, refl)
count-from_some (false ∷ marks) zero h =
    let (k, later, below, marked) = count-from_some marks zero (omega (arith, h, count-cons false marks)) in (suc k, omega arith, omega arith, marked)
count-from_some (b ∷ marks) (suc cursor) h =
    let (k, later, below, marked) = count-from_some marks cursor (omega (arith, h, count-cons b marks, count-cons b (take cursor marks))) in
    (suc k, omega arith, omega arith, marked)

pub has_more : {M : Type 0} (marks : List Bool) (slots : List M) (read cursor : ℕ) → AreMade marks (length slots) → IsRead marks read cursor →
    IsTrue (nat_lt read (count_marks marks)) ↔ HasFrom (slots_of marks slots) cursor
has_more marks slots read cursor made is = (
  λ yes. (let (k, later, below, marked) = count-from_some marks cursor (let less : read < count_marks marks = grind (arith, nat_tests, yes) in omega (
    arith,
    less,
    is.counted,
  )) in (
    k,
    later,
    omega (arith, below, length-slots_of marks slots),
    marked-some marks slots k made below marked,
  )),
  λ (k, later, below, some). (let less : read < count_marks marks = omega (
    arith,
    count-some_from marks cursor k later (some-marked marks slots k some),
    is.counted,
  ) in grind (arith, nat_tests, less)),
)

-- no mark between two places: as many before the one as before the other
pub count-gap : (marks : List Bool) (cursor gap : ℕ) → cursor + gap ≤ length marks →
    ((k : ℕ) → cursor ≤ k → k < cursor + gap → is_marked marks k ≡ false) → count_marks (take (cursor + gap) marks) ≡ count_marks (take cursor marks)
count-gap marks cursor zero h none = ap (λ i. count_marks (take i marks)) (omega arith)
count-gap marks cursor (suc gap) h none =
    omega (
      arith,
      ap (λ i. count_marks (take i marks)) (let e : cursor + suc gap ≡ cursor + gap + 1 = omega arith in e),
      count-take marks (cursor + gap) (omega arith),
      ap {B = ℕ} (λ b. cond b 1 0) (none (cursor + gap) (omega arith) (omega arith)),
      count-gap marks cursor gap (omega arith) (λ k low high. none k low (omega arith)),
    )

-- the payload at the first marked port from the cursor on is read
module _ {M : Type 0} (marks : List Bool) (slots : List M) (read cursor port : ℕ) (made : AreMade marks (length slots)) (is : IsRead marks read cursor)
    (later : cursor ≤ port) (below : port < length marks) (marked : is_marked marks port ≡ true)
    (first : (k : ℕ) → cursor ≤ k → k < port → is_marked marks k ≡ false) where
  pub read-next : IsRead marks (read + 1) (port + 1)
  read-next = record {
    counted = omega (
      arith,
      is.counted,
      count-take marks port below,
      ap {B = ℕ} (λ b. cond b 1 0) marked,
      count-gap marks cursor (port - cursor) (omega arith) (λ k low high. first k low (omega arith)),
      ap (λ i. count_marks (take i marks)) (let e : cursor + (port - cursor) ≡ port = omega arith in e),
    );
    within = omega arith;
  }

  pub port-in_slots : port < length slots
  port-in_slots = omega (arith, made.all (made.some (count-some marks port marked)))

  pub reads-port : (x : M) → slice_get slots port ≡ Some x →
      Reads (record { slots = slots_of marks slots; cursor = cursor }) x (record { slots = slots_of marks slots; cursor = port + 1 })
  reads-port x is_x = record {
    same = refl;
    later = omega arith;
    within = omega (arith, length-slots_of marks slots);
    here = λ k e. let same : k ≡ port = omega arith in
        ap (λ i. at_port (slots_of marks slots) i) same ∙ (at-marked marks slots port below marked ∙ is_x);
    first = λ k low high. at-unmarked marks slots k (first k low (omega arith));
  }
