-- What a node's own stamps say of the links that come to it, and that they rise.
use Rattle.std.proofs.Common.{◌≡◌, ℕ, suc, ◌+◌, ◌<◌, ◌≤◌, ◌==◌, List, [], ◌∷◌, ◌++◌, length, get_or, refl, sym, ap, ◌∙◌, ⊎_elim, append_assoc, arith, subst}
use Rattle.std.specs.Prelude.{All, max}
use Rattle.std.proofs.lemmas.List.Elements.{All-cons, All-nil}
use Rattle.std.proofs.lemmas.Bool.{cases_Bool, eqb-true}
use Rattle.std.proofs.lemmas.List.{get_or_at, length-append, length-map, map-append}
use Rattle.wires.specs.declared.stamped.Stamped.{Stamped}
use Rattle.entries.specs.declared.entry.Entry.{Entry}
use Rattle.entries.specs.declared.entry.Entry.TheVariants.{Pulse, Put, Take}
use Rattle.wires.specs.StampedWires.{stamped, stamps_of, wires_of}
use Rattle.entries.specs.declared.rows.StampedEntry.{StampedEntry}
use Rattle.entries.specs.Rows.{stamped_entry}
use Rattle.stamps.specs.Stamps.{AreStamped, Carries, Rises, counter_from, counter_of, next_stamp, taken_if, taken_in}

module _ {M : Type 0} where
  pub taken_more : (xs ys : List (StampedEntry M)) (w : ℕ) → taken_in (xs ++ ys) w ≡ taken_in xs w ++ taken_in ys w
  taken_more [] ys w = refl
  taken_more (e ∷ xs) ys w =
      let first = taken_if (λ from. from == w) e.stamp e.entry in
      ap (λ l. first ++ l) (taken_more xs ys w) ∙ sym (append_assoc first (taken_in xs w) (taken_in ys w))

  -- one entry more
  count_more : (before : List (StampedEntry M)) (e : StampedEntry M) (w : ℕ)
      → length (taken_in (before ++ (e ∷ [])) w) ≡ length (taken_in before w) + length (taken_in (e ∷ []) w)
  count_more before e w = ap (λ l. length l) (taken_more before (e ∷ []) w) ∙ length-append (taken_in before w) (taken_in (e ∷ []) w)

  -- one entry, the entries after it, and the wires left of those that came from w
  carries_step : (came : ℕ → List ℕ) (w : ℕ) (before : List (StampedEntry M)) (s : ℕ) (e : Entry M) (entries : List (StampedEntry M))
      (done left held : List (Stamped M)) → s ≡ next_stamp came before e → came w ≡ stamps_of (done ++ left) → length done ≡ length (taken_in before w)
      → wires_of (taken_in (stamped_entry s e ∷ entries) w) ≡ wires_of left
      → ((done' rest' : List (Stamped M)) → came w ≡ stamps_of (done' ++ rest')
      → length done' ≡ length (taken_in (before ++ (stamped_entry s e ∷ [])) w) → wires_of (taken_in entries w) ≡ wires_of rest'
      → Carries (rest' ++ held) (taken_in entries w) (wires_of held))
      → Carries (left ++ held) (taken_in (stamped_entry s e ∷ entries) w) (wires_of held)
  carries_step came w before s (Pulse p) entries done left held next is count same again =
      again done left is (let more = count_more before (stamped_entry s (Pulse p)) w in omega (arith, count, more)) same
  carries_step came w before s (Put to x) entries done left held next is count same again =
      again done left is (let more = count_more before (stamped_entry s (Put to x)) w in omega (arith, count, more)) same
  carries_step came w before s (Take from x) entries done left held next is count same again = ⊎_elim
      (λ here.
      let first : taken_in (stamped_entry s (Take from x) ∷ entries) w ≡ stamped s x ∷ taken_in entries w = rw here refl in
      let one : taken_in (stamped_entry s (Take from x) ∷ []) w ≡ stamped s x ∷ [] = rw here refl in
      subst (λ l. Carries (left ++ held) l (wires_of held)) (sym first)
      (by_left left again (is, (sym (ap (λ l. wires_of l) first) ∙ same, (eqb-true from w here, one)))))
      (λ other.
      let first : taken_in (stamped_entry s (Take from x) ∷ entries) w ≡ taken_in entries w = rw other refl in
      let one : taken_in (stamped_entry s (Take from x) ∷ []) w ≡ [] = rw other refl in
      subst (λ l. Carries (left ++ held) l (wires_of held)) (sym first)
      (again done left is
      (let more = count_more before (stamped_entry s (Take from x)) w in let none = ap (λ l. length l) one in omega (arith, count, more, none))
      (sym (ap (λ l. wires_of l) first) ∙ same)))
      (cases_Bool (from == w))
    where
      by_left : (rest : List (Stamped M)) → ((done' rest' : List (Stamped M)) → came w ≡ stamps_of (done' ++ rest')
          → length done' ≡ length (taken_in (before ++ (stamped_entry s (Take from x) ∷ [])) w) → wires_of (taken_in entries w) ≡ wires_of rest'
          → Carries (rest' ++ held) (taken_in entries w) (wires_of held)) → (came w ≡ stamps_of (done ++ rest)) ×
          ((x ∷ wires_of (taken_in entries w) ≡ wires_of rest) × ((from ≡ w) × (taken_in (stamped_entry s (Take from x) ∷ []) w ≡ stamped s x ∷ [])))
          → Carries (rest ++ held) (stamped s x ∷ taken_in entries w) (wires_of held)
      by_left [] again (came_is, (wires, more)) = absurd cc
      by_left (y ∷ rest) again (came_is, (wires, (from_is, one))) =
          let head : y.wire ≡ x = cc in
          let tail : wires_of (taken_in entries w) ≡ wires_of rest = cc in
          let is_next : s ≡ suc (max (counter_of before) (get_or (came from) (length (taken_in before from)) 0)) = next in
          let stamp : get_or (came from) (length (taken_in before from)) 0 ≡ y.stamp =
          ap (λ k. get_or (came k) (length (taken_in before k)) 0) from_is
          ∙ ap (λ l. get_or l (length (taken_in before w)) 0) (came_is ∙ map-append (λ z. z.stamp) done (y ∷ rest))
          ∙ get_or_at (stamps_of done) y.stamp (stamps_of rest) 0 (length (taken_in before w)) (length-map done (λ z. z.stamp) ∙ count) in
          let later : y.stamp < s = omega (arith, is_next, stamp) in (
            head,
            later,
            again (done ++ (y ∷ [])) rest
                (came_is ∙ ap (λ l. stamps_of l) (sym (append_assoc done (y ∷ []) rest)))
                (let more = count_more before (stamped_entry s (Take from x)) w in let some = ap (λ l. length l) one in
                let longer = length-append done (y ∷ []) in
                omega (arith, count, more, some, longer))
                tail,
          )

  -- the entries left of a node, and the wires left of those that came from w
  carries_from : (came : ℕ → List ℕ) (w : ℕ) (before entries : List (StampedEntry M)) (done left held : List (Stamped M))
      → AreStamped came (before ++ entries) → came w ≡ stamps_of (done ++ left) → length done ≡ length (taken_in before w)
      → wires_of (taken_in entries w) ≡ wires_of left → Carries (left ++ held) (taken_in entries w) (wires_of held)
  carries_from came w before [] done [] held right is count same = refl
  carries_from came w before [] done (x ∷ left) held right is count same = absurd cc
  carries_from came w before (e ∷ entries) done left held right is count same =
      carries_step came w before e.stamp e.entry entries done left held (right before e entries refl) is count same
      (λ done' rest' came_is many wires. carries_from came w (before ++ (e ∷ [])) entries done' rest' held
      (subst (AreStamped came) (sym (append_assoc before (e ∷ []) entries)) right) came_is many wires)

  -- The stamps of a node whose ends have met.
  pub carried : (came : ℕ → List ℕ) (w : ℕ) (entries : List (StampedEntry M)) (took held : List (Stamped M)) → AreStamped came entries
      → came w ≡ stamps_of took → wires_of (taken_in entries w) ≡ wires_of took → Carries (took ++ held) (taken_in entries w) (wires_of held)
  carried came w entries took held right is same = carries_from came w [] entries [] took held right is refl same

  -- ---- the stamps rise
  pub counter_behind : (c : ℕ) (before : List (StampedEntry M)) (e : StampedEntry M) → counter_from c (before ++ (e ∷ [])) ≡ e.stamp
  counter_behind c [] e = refl
  counter_behind c (x ∷ before) e = counter_behind x.stamp before e

  above : (came : ℕ → List ℕ) (before : List (StampedEntry M)) (e : Entry M) → counter_of before < next_stamp came before e
  above came before (Pulse p) = omega arith
  above came before (Put to x) = omega arith
  above came before (Take from x) = omega arith

  all_above : (came : ℕ → List ℕ) (c : ℕ) (before entries : List (StampedEntry M)) → AreStamped came (before ++ entries) → c ≤ counter_of before
      → All (λ later. c < later.stamp) entries
  all_above came c before [] right le = All-nil (λ (later : StampedEntry M). c < later.stamp)
  all_above came c before (e ∷ entries) right le =
      let is = right before e entries refl in
      let lt = above came before e.entry in
      let more : c < e.stamp = omega (arith, le, is, lt) in
      let at = counter_behind 0 before e in
      All-cons (λ (later : StampedEntry M). c < later.stamp) e entries more
      (all_above came c (before ++ (e ∷ [])) entries (subst (AreStamped came) (sym (append_assoc before (e ∷ []) entries)) right) (omega (arith, more, at)))

  rises_from : (came : ℕ → List ℕ) (before entries : List (StampedEntry M)) → AreStamped came (before ++ entries) → Rises entries
  rises_from came before [] right = tt
  rises_from came before (e ∷ entries) right =
      let rest = subst (AreStamped came) (sym (append_assoc before (e ∷ []) entries)) right in
      let at = counter_behind 0 before e in
      (all_above came e.stamp (before ++ (e ∷ [])) entries rest (omega (arith, at)), rises_from came (before ++ (e ∷ [])) entries rest)

  pub rises : (came : ℕ → List ℕ) (entries : List (StampedEntry M)) → AreStamped came entries → Rises entries
  rises came entries right = rises_from came [] entries right
