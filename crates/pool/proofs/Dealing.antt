-- What each worker begins with, one task after another.
use Rattle.std.proofs.Common.{◌≡◌, ◌≢◌, ℕ, ◌%◌, ◌<◌, cond, List, [], ◌∷◌, ◌++◌, length, map, set, get_or, sym, ap, ◌∙◌, ⊎_elim, arith, eqb}
use Rattle.std.specs.Prelude.{All}
use Rattle.std.specs.List.{filter}
use Rattle.std.proofs.lemmas.Bool.Decides.{eqb_tells}
use Rattle.std.proofs.lemmas.List.{append_assoc, append-nil, get_or-map, get_or-set_same, get_or-set_other, length-map, map-append, map-set, reverse-append}
use Rattle.std.proofs.lemmas.List.Elements.{All-map}
use Rattle.deque_rule.specs.declared.ledger.Ledger.{Ledger}
use Rattle.deque_rule.specs.Ledgers.{ledger}
use Rattle.pool.specs.Dealt.{begun_by}

-- the last of the numbers is the first that is dealt
begun_first : (workers k x : ℕ) (xs : List ℕ)
    → begun_by workers k (xs ++ x ∷ []) ≡ cond (eqb (x % workers) k) (x ∷ begun_by workers k xs) (begun_by workers k xs)
begun_first workers k x xs = ap (filter (λ n. eqb (n % workers) k)) (reverse-append xs (x ∷ []))

-- the view at a place, for the place of none that of a pass that pushed nothing
abbrev pub view_at : {A : Type 0} → (A → Ledger) → List A → ℕ → Ledger
view_at see xs k = get_or (map see xs) k (ledger 0 [] [])

module _ {A B : Type 0} (see : A → Ledger) (f : B → ℕ) (workers : ℕ) where
  -- what the deque of worker k was given, and of the tasks that are left those that it will be given
  abbrev pub given : List A → List B → ℕ → List ℕ
  given owns tasks k = (view_at see owns k).pushed ++ begun_by workers k (map f tasks)

  pub none_given : (owns : List A) (tasks : List B) (shares k : ℕ) → All (λ o. see o ≡ ledger shares [] []) owns → k < length owns
      → given owns tasks k ≡ begun_by workers k (map f tasks)
  none_given owns tasks shares k new lt =
      let fresh = All-map (λ v. v ≡ ledger shares [] []) see owns new k (ledger 0 [] []) (let n = length-map owns see in omega arith) in
      ap (λ (v : Ledger). v.pushed ++ begun_by workers k (map f tasks)) fresh

  pub all_given : (owns : List A) (tasks : List B) (k : ℕ) → tasks ≡ [] → (view_at see owns k).pushed ≡ given owns tasks k
  all_given owns tasks k none =
      sym (append-nil (view_at see owns k).pushed) ∙ ap (λ l. (view_at see owns k).pushed ++ begun_by workers k (map f l)) (sym none)

  -- a task goes to the deque of its number modulo workers
  pub one_given : (owns : List A) (old new : A) (tasks rest : List B) (x : B) (at k : ℕ) → at < length owns → old ≡ get_or owns at old
      → at ≡ f x % workers → tasks ≡ rest ++ x ∷ [] → (see new).pushed ≡ (see old).pushed ++ f x ∷ []
      → given (set owns at new) rest k ≡ given owns tasks k
  one_given owns old new tasks rest x at k lt here place out pushed =
      let none : Ledger = ledger 0 [] [] in
      let views = ap (λ l. get_or l k none) (map-set see owns at new) in
      let lt' : at < length (map see owns) = (let n = length-map owns see in omega arith) in
      let rests : List ℕ = begun_by workers k (map f rest) in
      let left = ap (begun_by workers k) (ap (map f) out ∙ map-append f rest (x ∷ [])) ∙ begun_first workers k (f x) (map f rest) in
      ⊎_elim
      (λ (s : _ × (f x % workers ≡ k)).
      let is : k ≡ at = sym (place ∙ s.1) in
      let after = views ∙ ap (λ j. get_or (set (map see owns) at (see new)) j none) is ∙ get_or-set_same (map see owns) at (see new) none lt' in
      let before = ap (λ j. get_or (map see owns) j none) is ∙ get_or-map see owns at old none lt ∙ ap see (sym here) in
      ap (λ (v : Ledger). v.pushed ++ rests) after ∙ ap (λ l. l ++ rests) pushed ∙ append_assoc (see old).pushed (f x ∷ []) rests
      ∙ sym (ap (λ (v : Ledger). v.pushed ++ begun_by workers k (map f tasks)) before
      ∙ ap (λ l. (see old).pushed ++ l) (left ∙ ap (λ b. cond b (f x ∷ rests) rests) s.0)))
      (λ (o : _ × (f x % workers ≢ k)).
      let after = views ∙ get_or-set_other (map see owns) at k (see new) none (λ e. o.1 (sym (e ∙ place))) in
      ap (λ (v : Ledger). v.pushed ++ rests) after
      ∙ ap (λ l. (view_at see owns k).pushed ++ l) (sym (left ∙ ap (λ b. cond b (f x ∷ rests) rests) o.0)))
      (eqb_tells (f x % workers) k)
