-- What a worker has out, step by step.
use Rattle.std.proofs.Common.{◌≡◌, ℕ, ◌<◌, List, [], ◌∷◌, ◌++◌, length, map, set, get_or, sym, ap, ◌∙◌, subst, arith, Option, Some, None}
use Rattle.std.specs.Prelude.{MatchOption, IfNone, IfSome}
use Rattle.std.proofs.lemmas.List.{length-map, get_or-map, map-set}
use Rattle.crossbeam_deque.proofs.Lists.{at_index}
use Rattle.deque_rule.specs.declared.ledger.Ledger.{Ledger}
use Rattle.deque_rule.specs.Ledgers.{ledger, weigh, AreOut, in_hand}
use Rattle.deque_rule.proofs.Rule.{weigh-append, map_snoc, total-set}

took : (own new : Ledger) (passes : List Ledger) (tasks : List ℕ) (k : ℕ) → new ≡ ledger own.shares own.pushed (own.taken ++ k ∷ [])
    → AreOut (own ∷ passes) tasks → AreOut (new ∷ passes) (k ∷ tasks)
took own new passes tasks k is out h =
    let t = ap (λ (v : Ledger). weigh h v.taken) is in
    let p = ap (λ (v : Ledger). weigh h v.pushed) is in
    let a = weigh-append h own.taken (k ∷ []) in
    let e = out h in
    omega arith

gave : (own new : Ledger) (passes : List Ledger) (tasks : List ℕ) (k : ℕ) → new ≡ ledger own.shares (own.pushed ++ k ∷ []) own.taken
    → AreOut (own ∷ passes) (k ∷ tasks) → AreOut (new ∷ passes) tasks
gave own new passes tasks k is out h =
    let t = ap (λ (v : Ledger). weigh h v.taken) is in
    let p = ap (λ (v : Ledger). weigh h v.pushed) is in
    let a = weigh-append h own.pushed (k ∷ []) in
    let e = out h in
    omega arith

stole : (own : Ledger) (passes : List Ledger) (i : ℕ) (v w : Ledger) (tasks : List ℕ) (k : ℕ) → i < length passes → v ≡ get_or passes i v
    → w ≡ ledger v.shares v.pushed (v.taken ++ k ∷ []) → AreOut (own ∷ passes) tasks → AreOut (own ∷ set passes i w) (k ∷ tasks)
stole own passes i v w tasks k within at is out h =
    let here = at_index passes i v within at in
    let s = total-set (λ u. weigh h u.pushed) passes i v w here in
    let s' = total-set (λ u. weigh h u.taken) passes i v w here in
    let t = ap (λ (u : Ledger). weigh h u.taken) is in
    let p = ap (λ (u : Ledger). weigh h u.pushed) is in
    let a = weigh-append h v.taken (k ∷ []) in
    let e = out h in
    omega arith

same_view : (own : Ledger) (passes : List Ledger) (i : ℕ) (v w : Ledger) (tasks : List ℕ) → i < length passes → v ≡ get_or passes i v
    → w ≡ v → AreOut (own ∷ passes) tasks → AreOut (own ∷ set passes i w) tasks
same_view own passes i v w tasks within at is out h =
    let here = at_index passes i v within at in
    let s = total-set (λ u. weigh h u.pushed) passes i v w here in
    let s' = total-set (λ u. weigh h u.taken) passes i v w here in
    let t = ap (λ (u : Ledger). weigh h u.taken) is in
    let p = ap (λ (u : Ledger). weigh h u.pushed) is in
    let e = out h in
    omega arith

module _ {A : Type 0} (f : A → ℕ) where
  -- a pop of the own deque, into an empty hand
  pub popped : (E : Type 0) (found : Option A) (own new : Ledger) (passes : List Ledger) (before : Option A) (rest : List ℕ) → before ≡ None
      → MatchOption found ((new ≡ own) × E) (λ x. new ≡ ledger own.shares own.pushed (own.taken ++ map f (x ∷ [])))
      → AreOut (own ∷ passes) (in_hand f before ++ rest) → (new.shares ≡ own.shares) × AreOut (new ∷ passes) (in_hand f found ++ rest)
  popped E None own new passes before rest e said out =
      let clear = subst (λ o. AreOut (own ∷ passes) (in_hand f o ++ rest)) e out in
      (ap (λ v. v.shares) said.0, subst (λ v. AreOut (v ∷ passes) rest) (sym said.0) clear)
  popped E (Some x) own new passes before rest e said out =
      let clear = subst (λ o. AreOut (own ∷ passes) (in_hand f o ++ rest)) e out in
      (ap (λ v. v.shares) said, took own new passes rest (f x) said clear)

  -- a steal, into an empty hand
  pub stolen : {G : Type 0} (see : G → Ledger) (passes : List G) (i : ℕ) (g new : G) (found : Option A) (own : Ledger) (before : Option A) (rest : List ℕ)
      → i < length passes → g ≡ get_or passes i g → before ≡ None → IfNone found (see new ≡ see g)
      → IfSome found (λ x. see new ≡ ledger (see g).shares (see g).pushed ((see g).taken ++ f x ∷ []))
      → AreOut (own ∷ map see passes) (in_hand f before ++ rest) → AreOut (own ∷ map see (set passes i new)) (in_hand f found ++ rest)
  stolen see passes i g new found own before rest within at e same took out =
      let clear = subst (λ o. AreOut (own ∷ map see passes) (in_hand f o ++ rest)) e out in
      let there = ap see at ∙ sym (get_or-map see passes i g (see g) within) in
      subst (λ vs. AreOut (own ∷ vs) (in_hand f found ++ rest)) (sym (map-set see passes i new))
      (by_case found (omega (arith, length-map passes see)) there same took clear)
    where
      by_case : (found : Option A) → i < length (map see passes) → see g ≡ get_or (map see passes) i (see g) → IfNone found (see new ≡ see g)
          → IfSome found (λ x. see new ≡ ledger (see g).shares (see g).pushed ((see g).taken ++ f x ∷ []))
          → AreOut (own ∷ map see passes) rest → AreOut (own ∷ set (map see passes) i (see new)) (in_hand f found ++ rest)
      by_case None lt there same took clear = same_view own (map see passes) i (see g) (see new) rest lt there same clear
      by_case (Some x) lt there same took clear = stole own (map see passes) i (see g) (see new) rest (f x) lt there took clear

  -- the task in hand makes a turn
  pub turned : (views : List Ledger) (before : Option A) (x y : A) (rest : List ℕ) → before ≡ Some x → f y ≡ f x
      → AreOut views (in_hand f before ++ rest) → AreOut views (in_hand f (Some y) ++ rest)
  turned views before x y rest e same out =
      subst (λ k. AreOut views (k ∷ rest)) (sym same) (subst (λ o. AreOut views (in_hand f o ++ rest)) e out)

  -- a push of the task in hand on the own deque
  pub pushed : (own new : Ledger) (passes : List Ledger) (before after : Option A) (x : A) (rest : List ℕ) → before ≡ Some x → after ≡ None
      → new ≡ ledger own.shares (own.pushed ++ map f (x ∷ [])) own.taken
      → AreOut (own ∷ passes) (in_hand f before ++ rest) → (new.shares ≡ own.shares) × AreOut (new ∷ passes) (in_hand f after ++ rest)
  pushed own new passes before after x rest e nothing is out = (
    ap (λ v. v.shares) is,
    subst (λ o. AreOut (new ∷ passes) (in_hand f o ++ rest)) (sym nothing)
        (gave own new passes rest (f x) is (subst (λ o. AreOut (own ∷ passes) (in_hand f o ++ rest)) e out)),
  )

  -- a push that is refused
  pub kept : (own new : Ledger) (passes : List Ledger) (before : Option A) (x y : A) (rest : List ℕ) → before ≡ Some x → y ≡ x → new ≡ own
      → AreOut (own ∷ passes) (in_hand f before ++ rest) → (new.shares ≡ own.shares) × AreOut (new ∷ passes) (in_hand f (Some y) ++ rest)
  kept own new passes before x y rest e same is out = (
    ap (λ v. v.shares) is,
    subst (λ v. AreOut (v ∷ passes) (f y ∷ rest)) (sym is)
        (subst (λ z. AreOut (own ∷ passes) (f z ∷ rest)) (sym same) (subst (λ o. AreOut (own ∷ passes) (in_hand f o ++ rest)) e out)),
  )

  -- the task in hand goes to the finished places
  pub finished : (views : List Ledger) (before after : Option A) (x : A) (old new : List A) → before ≡ Some x → after ≡ None → new ≡ old ++ x ∷ []
      → AreOut views (in_hand f before ++ map f old) → AreOut views (in_hand f after ++ map f new)
  finished views before after x old new e nothing is out h =
      let a = ap (λ o. weigh h (in_hand f o ++ map f new)) nothing in
      let o = subst (λ o. AreOut views (in_hand f o ++ map f old)) e out h in
      let m = ap (λ l. weigh h (map f l)) is ∙ ap (weigh h) (map_snoc f old x) ∙ weigh-append h (map f old) (f x ∷ []) in
      omega arith
