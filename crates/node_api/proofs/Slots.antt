-- The slots of an inbox against its marks.
use Rattle.std.proofs.Common.{◌≡◌, ◌≢◌, ℕ, zero, suc, ◌<◌, Bool, true, false, List, [], ◌∷◌, length, replicate}
use Rattle.std.proofs.Common.{refl, ap, sym, subst, ◌∙◌, arith, inl, inr}
use Rattle.std.specs.Prelude.{Option, Some, None, IsSome, is_some, IsTrue, slice_get, if◌then◌else◌}
use Rattle.std.proofs.lemmas.List.{same_lists, get_or-replicate, get_or_default, get_or_past, length-replicate}
use Rattle.std.proofs.lemmas.List.FromFn.{get_or-map-range_with_len, length-map-range_with_len}
use Rattle.std.proofs.lemmas.Bool.{cases_Bool}
use native.Mathlib.Decide.{dec_lt}
use Prim.{yes, no}
use Rattle.node_api.specs.Marks.{count_marks, is_marked}
use Rattle.node_api.proofs.Counting.{count-cons, count-some}
use Rattle.node_api.specs.Boxes.{at_port, nothing}
use Rattle.node_api.specs.Slots.{slot_of, slots_of, AreMade}

pub at_port-nothing : {M : Type 0} (n port : ℕ) → at_port {M = M} (nothing n) port ≡ None
at_port-nothing {M} n port =
    elim (dec_lt port n) [
      | yes below ↦ get_or-replicate n port None None below
      | no other ↦ get_or_past {X = Option M} (nothing n) port None (omega (arith, length-replicate {A = Option M} n None))
    ]

pub some_or_none : {M : Type 0} (x : Option M) → IsSome x → x ≢ None
some_or_none None some = λ e. let wrong : IsTrue false = some in (cc)
some_or_none (Some x) some = λ e. let wrong : IsTrue false = sym (ap is_some e) in (cc)

-- a place that is in a list
pub get-below : {M : Type 0} (xs : List M) (k : ℕ) → k < length xs → IsSome (slice_get xs k)
get-below [] k h = absurd (omega arith)
get-below (x ∷ xs) zero h = refl
get-below (x ∷ xs) (suc k) h = get-below xs k (omega arith)

module _ {M : Type 0} where
  pub length-slots_of : (marks : List Bool) (slots : List M) → length (slots_of marks slots) ≡ length marks
  unfolding slots_of
  length-slots_of marks slots = length-map-range_with_len (slot_of marks slots) 0 (length marks)

  pub at-slots_of : (marks : List Bool) (slots : List M) (k : ℕ) → k < length marks → at_port (slots_of marks slots) k ≡ slot_of marks slots k
  unfolding slots_of
  at-slots_of marks slots k below = get_or-map-range_with_len (slot_of marks slots) 0 (length marks) k k None below (omega arith)

  pub at-unmarked : (marks : List Bool) (slots : List M) (k : ℕ) → is_marked marks k ≡ false → at_port (slots_of marks slots) k ≡ None
  at-unmarked marks slots k free =
      elim (dec_lt k (length marks)) [
        | yes below ↦ at-slots_of marks slots k below ∙ ap (λ b. if b then slice_get slots k else None) free
        | no past ↦ get_or_past (slots_of marks slots) k None (omega (arith, length-slots_of marks slots))
      ]

  pub at-marked : (marks : List Bool) (slots : List M) (k : ℕ) → k < length marks → is_marked marks k ≡ true →
      at_port (slots_of marks slots) k ≡ slice_get slots k
  at-marked marks slots k below marked = at-slots_of marks slots k below ∙ ap (λ b. if b then slice_get slots k else None) marked

  -- a slot for each marked port
  pub marked-some : (marks : List Bool) (slots : List M) (k : ℕ) → AreMade marks (length slots) → k < length marks → is_marked marks k ≡ true →
      IsSome (at_port (slots_of marks slots) k)
  marked-some marks slots k made below marked =
      let there : 0 < length slots = made.some (count-some marks k marked) in
      subst IsSome (sym (at-marked marks slots k below marked)) (get-below slots k (omega (arith, made.all there)))

  pub some-marked : (marks : List Bool) (slots : List M) (k : ℕ) → IsSome (at_port (slots_of marks slots) k) → is_marked marks k ≡ true
  some-marked marks slots k some =
      elim (cases_Bool (is_marked marks k)) [
        | inl marked ↦ marked
        | inr free ↦ absurd (some_or_none (at_port (slots_of marks slots) k) some (at-unmarked marks slots k free))
      ]

  pub some-below : (marks : List Bool) (slots : List M) (k : ℕ) → IsSome (at_port (slots_of marks slots) k) → k < length marks
  some-below marks slots k some =
      elim (dec_lt k (length marks)) [
        | yes below ↦ below
        | no past ↦ absurd (some_or_none (at_port (slots_of marks slots) k) some
            (get_or_past (slots_of marks slots) k None (omega (arith, length-slots_of marks slots))))
      ]

  pub none-unmarked : (marks : List Bool) (slots : List M) (k : ℕ) → AreMade marks (length slots) → k < length marks →
      at_port (slots_of marks slots) k ≡ None → is_marked marks k ≡ false
  none-unmarked marks slots k made below none =
      elim (cases_Bool (is_marked marks k)) [
        | inl marked ↦ absurd (some_or_none (at_port (slots_of marks slots) k) (marked-some marks slots k made below marked) none)
        | inr free ↦ free
      ]

  pub slots_of-none : (n : ℕ) (slots : List M) → slots_of (replicate n false) slots ≡ nothing n
  slots_of-none n slots =
      same_lists _ _ (length-slots_of (replicate n false) slots ∙ (length-replicate n false ∙ sym (length-replicate n None)))
      (λ k d h. let below : k < n = omega (arith, length-slots_of (replicate n false) slots, length-replicate n false) in
      get_or_default (slots_of (replicate n false) slots) k d None h
      ∙ (at-unmarked (replicate n false) slots k (get_or-replicate n k false false below)
      ∙ sym (get_or-replicate n k None d below)))

-- no port is marked
pub unmarked-all : (marks : List Bool) → count_marks marks ≡ 0 → marks ≡ replicate (length marks) false
unmarked-all [] e = refl
unmarked-all (true ∷ marks) e = absurd (omega (arith, e, count-cons true marks))
unmarked-all (false ∷ marks) e = ap (λ l. false ∷ l) (unmarked-all marks (omega (arith, e, count-cons false marks)))

pub slots_of-uncounted : {M : Type 0} (marks : List Bool) (slots : List M) → count_marks marks ≡ 0 → slots_of marks slots ≡ nothing (length marks)
slots_of-uncounted marks slots e =
    ap (λ (l : List Bool). slots_of l slots) (unmarked-all marks e) ∙ slots_of-none (length marks) slots
