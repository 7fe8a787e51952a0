-- A test of each thing of a row, as the code goes through it.
use Rattle.std.proofs.Common.{◌≡◌, ℕ, zero, suc, ◌+◌, ◌<◌, ◌≤◌, List, [], ◌∷◌, length, map, drop, get_or, true, false, nat_eq, sym, ap, ◌∙◌, arith}
use Rattle.std.specs.Prelude.{Bool, ◌&&◌}
use Rattle.std.proofs.Math.Numerals.{add-one}
use Rattle.std.proofs.Math.Seq.{drop-cons, drop-nil}
use Rattle.wires.specs.declared.stamped.Stamped.{Stamped}
use Rattle.link_queue.specs.declared.met.Met.{Met}
use Rattle.link_queue.specs.Ends.{held_stamped}
use Rattle.outcomes.specs.Meets.{history_of_met}

-- nothing is left past the end
past_end : {A : Type 0} (xs : List A) (i : ℕ) → length xs ≤ i → drop i xs ≡ []
past_end [] i le = drop-nil i
past_end (x ∷ xs) zero le = absurd (omega arith)
past_end (x ∷ xs) (suc i) le = past_end xs i (omega arith)

-- what a word for every thing says of a row, of which the things before place i have passed
module _ {A B : Type 0} (every : List B → Bool) (test : B → Bool) (none : every [] ≡ true)
    (more : (x : B) (xs : List B) → every (x ∷ xs) ≡ test x && every xs) (f : A → B) (row : List A) (i : ℕ)
    (so_far : every (map f row) ≡ every (map f (drop i row))) where
  here : (x : A) → i < length row → x ≡ get_or row i x → every (map f row) ≡ test (f x) && every (map f (drop (i + 1) row))
  here x lt at =
      so_far ∙ ap (λ l. every (map f l)) (drop-cons row i x lt) ∙ more (f (get_or row i x)) (map f (drop (suc i) row))
      ∙ (λ k. test (f (sym at k)) && every (map f (drop (sym (add-one i) k) row)))

  pub passed : (x : A) → i < length row → x ≡ get_or row i x → test (f x) ≡ true → every (map f row) ≡ every (map f (drop (i + 1) row))
  passed x lt at is = here x lt at ∙ ap (λ b. b && every (map f (drop (i + 1) row))) is

  pub failed : (x : A) → i < length row → x ≡ get_or row i x → test (f x) ≡ false → false ≡ every (map f row)
  failed x lt at is = sym (here x lt at ∙ ap (λ b. b && every (map f (drop (i + 1) row))) is)

  pub all_passed : length row ≤ i → true ≡ every (map f row)
  all_passed end = sym (so_far ∙ ap (λ l. every (map f l)) (past_end row i end) ∙ none)

-- whether a link holds no wire
pub no_wires : {T : Type 0} (met : Met T) (held : List (Stamped T)) (empty is : Bool) → held ≡ held_stamped met
    → empty ≡ nat_eq (length held) 0 → empty ≡ is → nat_eq (length (history_of_met met).held) 0 ≡ is
no_wires met held empty is same says e =
    ap (λ l. nat_eq (length l) 0) (sym same) ∙ sym says ∙ e
