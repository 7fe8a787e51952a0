-- Reading an inbox to its end takes in its payloads, by ascending port.
use Rattle.std.proofs.Common.{◌≡◌, ℕ, zero, suc, ◌+◌, ◌-◌, ◌<◌, ◌≤◌, List, [], ◌∷◌, length, drop, refl, ap, sym, ◌∙◌, arith}
use Rattle.std.specs.Prelude.{Option, Some, None, IsSome}
use Rattle.std.proofs.lemmas.List.{drop_more, drop_all}
use native.Mathlib.Decide.{dec_lt}
use Prim.{yes, no}
use Rattle.node_api.specs.Boxes.{Mail, Reads, HasFrom, at_port, fold_slots, nothing}

-- the payloads of an inbox that are still to be read, taken in by f
abbrev pub fold_rest : {M B : Type 0} → (B → ℕ → M → B) → B → Mail M → B
fold_rest f b mail = fold_slots f b mail.cursor (drop mail.cursor mail.slots)

module _ {M B : Type 0} (f : B → ℕ → M → B) where
  slot_none : (slots : List (Option M)) (i : ℕ) (b : B) → i < length slots → at_port slots i ≡ None →
      fold_slots f b i (drop i slots) ≡ fold_slots f b (i + 1) (drop (i + 1) slots)
  slot_none slots i b h e = ap (fold_slots f b i) (drop_more slots i None h ∙ ap (λ (x : Option M). x ∷ drop (i + 1) slots) e)

  slot_some : (slots : List (Option M)) (i : ℕ) (b : B) (x : M) → i < length slots → at_port slots i ≡ Some x →
      fold_slots f b i (drop i slots) ≡ fold_slots f (f b i x) (i + 1) (drop (i + 1) slots)
  slot_some slots i b x h e = ap (fold_slots f b i) (drop_more slots i None h ∙ ap (λ (y : Option M). y ∷ drop (i + 1) slots) e)

  skips : (gap : ℕ) (slots : List (Option M)) (i : ℕ) (b : B) → i + gap ≤ length slots → ((port : ℕ) → i ≤ port → port < i + gap → at_port slots port ≡ None)
      → fold_slots f b i (drop i slots) ≡ fold_slots f b (i + gap) (drop (i + gap) slots)
  skips zero slots i b h none = ap (λ (k : ℕ). fold_slots f b k (drop k slots)) (let e : i ≡ i + 0 = omega arith in e)
  skips (suc gap) slots i b h none =
      slot_none slots i b (omega arith) (none i (omega arith) (omega arith))
      ∙ (skips gap slots (i + 1) b (omega arith) (λ port low high. none port (omega arith) (omega arith))
      ∙ ap (λ (k : ℕ). fold_slots f b k (drop k slots)) (let e : i + 1 + gap ≡ i + suc gap = omega arith in e))

  -- what is read is the next to be taken in, and then the rest
  pub fold_rest-read : (old : Mail M) (x : M) (new : Mail M) (b : B) → Reads old x new → fold_rest f b old ≡ fold_rest f (f b (new.cursor - 1) x) new
  fold_rest-read old x new b r =
      let last : ℕ = new.cursor - 1 in
      let there : old.cursor + (last - old.cursor) ≡ last = omega (arith, r.later) in
      let next : last + 1 ≡ new.cursor = omega (arith, r.later) in
      skips (last - old.cursor) old.slots old.cursor b (omega (arith, r.later, r.within)) (λ port low high. r.first port low (omega (arith, r.later)))
      ∙ (ap (λ (k : ℕ). fold_slots f b k (drop k old.slots)) there
      ∙ (slot_some old.slots last b x (omega (arith, r.later, r.within)) (r.here last next)
      ∙ (ap (λ (k : ℕ). fold_slots f (f b last x) k (drop k old.slots)) next
      ∙ ap (λ (slots : List (Option M)). fold_slots f (f b last x) new.cursor (drop new.cursor slots)) (sym r.same))))

  none_unless : (x : Option M) → (IsSome x → ⊥) → x ≡ None
  none_unless None h = refl
  none_unless (Some x) h = absurd (h refl)

  -- where nothing is left to be read, nothing is taken in
  pub fold_rest-end : (mail : Mail M) (b : B) → (HasFrom mail.slots mail.cursor → ⊥) → fold_rest f b mail ≡ b
  fold_rest-end mail b h =
      let slots = mail.slots in
      let cursor = mail.cursor in
      elim (dec_lt cursor (length slots)) [
        | yes below ↦
            skips (length slots - cursor) slots cursor b (omega arith) (λ port low high. none_unless (at_port slots port) (λ some. h (
              port,
              low,
              omega arith,
              some,
            )))
            ∙ ap (λ (rest : List (Option M)). fold_slots f b (cursor + (length slots - cursor)) rest)
            (drop_all (cursor + (length slots - cursor)) slots (omega arith))
        | no other ↦ ap (λ (rest : List (Option M)). fold_slots f b cursor rest) (drop_all cursor slots (omega arith))
      ]

-- an inbox in which nothing is left to be read from its first port holds nothing
pub nothing-came : {M : Type 0} (slots : List (Option M)) → (HasFrom slots 0 → ⊥) → slots ≡ nothing (length slots)
nothing-came [] quiet = refl
nothing-came (None ∷ slots) quiet = ap (λ rest. None ∷ rest) (nothing-came slots (λ some. quiet (
  suc some.0,
  omega arith,
  (let h : some.0 < length slots = some.2 in omega arith),
  some.3,
)))
nothing-came (Some x ∷ slots) quiet = absurd (quiet (0, omega arith, omega arith, refl))
