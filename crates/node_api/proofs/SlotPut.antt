-- A payload that is put at a free port: its slot is written, and the port is marked.
use Rattle.std.proofs.Common.{◌≡◌, ◌≢◌, ℕ, zero, suc, ◌+◌, ◌<◌, ◌≤◌, Bool, true, false, List, [], ◌∷◌, length, get_or, set, take}
use Rattle.std.proofs.Common.{cond, refl, ap, sym, ◌∙◌, arith, inl, inr}
use Rattle.std.specs.Prelude.{Some, None, slice_get, slice_set, if◌then◌else◌}
use Rattle.std.proofs.lemmas.Bool.{cases_eq}
use Rattle.std.proofs.lemmas.List.{same_lists, get_or-set_other, get_or-set_same, get_or_default, length-set}
use Rattle.node_api.specs.Marks.{count_marks, is_marked}
use Rattle.node_api.proofs.Counting.{count-cons, count-some}
use Rattle.node_api.specs.Slots.{slot_of, slots_of, AreMade, IsRead}
use Rattle.node_api.proofs.Slots.{length-slots_of, at-slots_of}

pub get-set_other : {M : Type 0} (xs : List M) (k j : ℕ) (x : M) → j ≢ k → slice_get (slice_set xs k x) j ≡ slice_get xs j
get-set_other [] k j x h = refl
get-set_other (y ∷ xs) zero zero x h = absurd (h refl)
get-set_other (y ∷ xs) zero (suc j) x h = refl
get-set_other (y ∷ xs) (suc k) zero x h = refl
get-set_other (y ∷ xs) (suc k) (suc j) x h = get-set_other xs k j x (λ e. h (ap suc e))

-- a payload is put at a free port
take-set_later : (marks : List Bool) (cursor port : ℕ) (x : Bool) → cursor ≤ port → take cursor (set marks port x) ≡ take cursor marks
take-set_later [] cursor port x h = refl
take-set_later (b ∷ marks) zero port x h = refl
take-set_later (b ∷ marks) (suc cursor) zero x h = absurd (omega arith)
take-set_later (b ∷ marks) (suc cursor) (suc port) x h = ap (λ l. b ∷ l) (take-set_later marks cursor port x (omega arith))

count-set_before : (marks : List Bool) (cursor port : ℕ) → port < cursor → port < length marks → is_marked marks port ≡ false →
    count_marks (take cursor (set marks port true)) ≡ count_marks (take cursor marks) + 1
count-set_before [] cursor port h below free = absurd (omega arith)
count-set_before (b ∷ marks) zero port h below free = absurd (omega arith)
count-set_before (b ∷ marks) (suc cursor) zero h below free =
    omega (arith, count-cons true (take cursor marks), count-cons b (take cursor marks), ap {B = ℕ} (λ x. cond x 1 0) free)
count-set_before (b ∷ marks) (suc cursor) (suc port) h below free =
    omega (
      arith,
      count-cons b (take cursor (set marks port true)),
      count-cons b (take cursor marks),
      count-set_before marks cursor port (omega arith) (omega arith)
          free,
    )

module _ (marks : List Bool) (read cursor port : ℕ) (is : IsRead marks read cursor) (below : port < length marks) (free : is_marked marks port ≡ false) where
  pub read-put_before : port < cursor → IsRead (set marks port true) (read + 1) cursor
  read-put_before before = record {
    counted = omega (arith, is.counted, count-set_before marks cursor port before below free);
    within = omega (arith, is.within, length-set marks port true);
  }

  pub read-put_after : cursor ≤ port → IsRead (set marks port true) read cursor
  read-put_after after = record {
    counted = is.counted ∙ sym (ap count_marks (take-set_later marks cursor port true after));
    within = omega (arith, is.within, length-set marks port true);
  }

module _ {M : Type 0} (marks : List Bool) (slots new : List M) (port : ℕ) (x : M) (below : port < length marks) (free : is_marked marks port ≡ false)
    (made : AreMade marks (length slots)) (size : length new ≡ length marks) (here : slice_get new port ≡ Some x)
    (others : 0 < length slots → new ≡ slice_set slots port x) where
  pub made-put : AreMade (set marks port true) (length new)
  made-put = record {
    all = λ some. omega (arith, size, length-set marks port true);
    some = λ some. omega (arith, size);
  }

  same_slot : (k : ℕ) → k ≢ port → is_marked marks k ≡ true → slice_get new k ≡ slice_get slots k
  same_slot k apart marked = ap (λ l. slice_get l k) (others (made.some (count-some marks k marked))) ∙ get-set_other slots port k x apart

  other_slot : (b : Bool) (k : ℕ) → k ≢ port → b ≡ is_marked marks k →
      (if b then slice_get new k else None) ≡ (if b then slice_get slots k else None)
  other_slot true k apart e = same_slot k apart (sym e)
  other_slot false k apart e = refl

  pub slots-put : slots_of (set marks port true) new ≡ slice_set (slots_of marks slots) port (Some x)
  slots-put =
      same_lists _ _ (length-slots_of (set marks port true) new ∙ (length-set marks port true
      ∙ sym (length-set (slots_of marks slots) port (Some x) ∙ length-slots_of marks slots)))
      (λ k d h. let inside : k < length marks = omega (arith, length-slots_of (set marks port true) new, length-set marks port true) in
      get_or_default (slots_of (set marks port true) new) k d None h
      ∙ (at-slots_of (set marks port true) new k (omega (arith, inside, length-set marks port true))
      ∙ elim (cases_eq k port) [
        | inl met ↦
            ap (λ i. slot_of (set marks port true) new i) met
            ∙ (ap (λ b. if b then slice_get new port else None) (get_or-set_same marks port true false below)
            ∙ (here ∙ sym (ap (λ i. get_or (slice_set (slots_of marks slots) port (Some x)) i d) met
            ∙ get_or-set_same (slots_of marks slots) port (Some x) d (omega (arith, below, length-slots_of marks slots)))))
        | inr apart ↦
            ap (λ b. if b then slice_get new k else None) (get_or-set_other marks port k true false apart)
            ∙ (other_slot (is_marked marks k) k apart refl
            ∙ sym (get_or-set_other (slots_of marks slots) port k (Some x) d apart
            ∙ (get_or_default (slots_of marks slots) k d None (omega (arith, inside, length-slots_of marks slots))
            ∙ at-slots_of marks slots k inside)))
      ]))
