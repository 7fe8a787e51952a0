-- Each step keeps the rule of a deque.
use Rattle.std.proofs.Common.{◌≡◌, ◌≢◌, ℕ, zero, suc, ◌+◌, ◌-◌, ◌<◌, ◌≤◌, List, [], ◌∷◌, ◌++◌, map, reverse, set, sym, refl, ap, ◌∙◌, subst}
use Rattle.std.proofs.Common.{⊎_elim, arith}
use Rattle.std.proofs.lemmas.List.{map-append, reverse-append}
use mathlib.Core.Option as option
use lib.ListN.{get_elem?}
use Rattle.crossbeam_deque.specs.Tasks.{Pushes, Takes, Pops, Finds, Forks, Merges}
use Rattle.crossbeam_deque.proofs.Lists.{at_set, at_snoc}
use Rattle.deque_rule.specs.declared.ledger.Ledger.{Ledger}
use Rattle.deque_rule.specs.Ledgers.{ledger, weigh, total, IdleIsEmpty, Balanced, KnowsEmpty}

pub weigh-append : (h : ℕ → ℕ) (xs ys : List ℕ) → weigh h (xs ++ ys) ≡ weigh h xs + weigh h ys
weigh-append h [] ys = omega arith
weigh-append h (x ∷ xs) ys = let e = weigh-append h xs ys in omega arith

pub weigh-reverse : (h : ℕ → ℕ) (xs : List ℕ) → weigh h (reverse xs) ≡ weigh h xs
weigh-reverse h [] = refl
weigh-reverse h (x ∷ xs) =
    let e = weigh-reverse h xs in
    let q = ap (weigh h) (reverse-append (x ∷ []) xs) in
    omega (arith, weigh-append h (reverse xs) (x ∷ []))

pub map_snoc : {A : Type 0} (f : A → ℕ) (items : List A) (x : A) → map f (items ++ x ∷ []) ≡ map f items ++ f x ∷ []
map_snoc f [] x = refl
map_snoc f (y ∷ ys) x = ap (λ l. f y ∷ l) (map_snoc f ys x)

pub total-set : (f : Ledger → ℕ) (views : List Ledger) (pass : ℕ) (v w : Ledger) → get_elem? views pass ≡ option.some v
    → total f (set views pass w) + f v ≡ total f views + f w
total-set f [] pass v w e = absurd (option.some-ne-none v (sym e))
total-set f (x ∷ xs) zero v w e = let s : f x ≡ f v = ap f (option.some-injective x v e) in omega arith
total-set f (x ∷ xs) (suc pass) v w e = let s = total-set f xs pass v w e in omega arith

pub total_snoc : (f : Ledger → ℕ) (views : List Ledger) (w : Ledger) → total f (views ++ w ∷ []) ≡ total f views + f w
total_snoc f [] w = omega arith
total_snoc f (x ∷ xs) w = let s = total_snoc f xs w in omega arith

pub total_at : (f : Ledger → ℕ) (views : List Ledger) (pass : ℕ) (v : Ledger) → get_elem? views pass ≡ option.some v → f v ≤ total f views
total_at f [] pass v e = absurd (option.some-ne-none v (sym e))
total_at f (x ∷ xs) zero v e = let s : f x ≡ f v = ap f (option.some-injective x v e) in omega arith
total_at f (x ∷ xs) (suc pass) v e = let s = total_at f xs pass v e in omega arith

abbrev Nothing : Ledger → Type 0
Nothing v = (v.pushed ≡ []) × (v.taken ≡ [])

idle_set : (views : List Ledger) (pass : ℕ) (w : Ledger) → (w.shares ≡ 0 → Nothing w) → IdleIsEmpty views → IdleIsEmpty (set views pass w)
idle_set views pass w mine idle j u e none =
    ⊎_elim (λ (x : (j ≡ pass) × (w ≡ u)). subst Nothing x.1 (mine (ap (λ y. y.shares) x.1 ∙ none)))
    (λ (x : (j ≢ pass) × (get_elem? views j ≡ option.some u)). idle j u x.1 none) (at_set views pass j w u e)

idle_snoc : (views : List Ledger) (w : Ledger) → (w.shares ≡ 0 → Nothing w) → IdleIsEmpty views → IdleIsEmpty (views ++ w ∷ [])
idle_snoc views w mine idle j u e none = ⊎_elim (λ (x : get_elem? views j ≡ option.some u). idle j u x none)
    (λ (x : w ≡ u). subst Nothing x (mine (ap (λ y. y.shares) x ∙ none))) (at_snoc views w u j e)

-- f is 0 of each pass without a share
abbrev IsZeroIdle : (Ledger → ℕ) → List Ledger → Type 0
IsZeroIdle f views = (pass : ℕ) (v : Ledger) → get_elem? views pass ≡ option.some v → v.shares ≡ 0 → f v ≡ 0

none_left : (f : Ledger → ℕ) (views : List Ledger) → total (λ v. v.shares) views ≡ 0 → IsZeroIdle f views → total f views ≡ 0
none_left f [] e idle = refl
none_left f (x ∷ xs) e idle =
    let z : f x ≡ 0 = idle 0 x refl (omega arith) in
    let r = none_left f xs (omega arith) (λ j u at. idle (suc j) u at) in
    omega arith

-- if one pass has every share, the others have pushed and taken nothing
alone : (f : Ledger → ℕ) (views : List Ledger) (pass : ℕ) (v : Ledger) → get_elem? views pass ≡ option.some v → total (λ v. v.shares) views ≡ v.shares
    → IsZeroIdle f views → total f views ≡ f v
alone f [] pass v at e idle = absurd (option.some-ne-none v (sym at))
alone f (x ∷ xs) zero v at e idle =
    let is = option.some-injective x v at in
    let p : x.shares ≡ v.shares = ap (λ y. y.shares) is in
    let z : f x ≡ f v = ap f is in
    let r = none_left f xs (omega arith) (λ j u a. idle (suc j) u a) in
    omega arith
alone f (x ∷ xs) (suc pass) v at e idle =
    let le = total_at (λ y. y.shares) xs pass v at in
    let z : f x ≡ 0 = idle 0 x refl (omega arith) in
    let r = alone f xs pass v at (omega arith) (λ j u a. idle (suc j) u a) in
    omega arith

pub forks : (pass : ℕ) (v : Ledger) → 1 < v.shares → Forks Balanced pass v (ledger (v.shares - 1) v.pushed v.taken) (ledger 1 [] [])
forks pass v more items views b at =
    let l = ledger (v.shares - 1) v.pushed v.taken in
    let r = ledger 1 [] [] in
    let vs = set views pass l in
    record {
      shares = let s = total-set (λ u. u.shares) views pass v l at in let t = total_snoc (λ u. u.shares) vs r in let p = b.shares in omega arith;
      even = λ h.
          let s = total-set (λ u. weigh h u.pushed) views pass v l at in
          let t = total_snoc (λ u. weigh h u.pushed) vs r in
          let s' = total-set (λ u. weigh h u.taken) views pass v l at in
          let t' = total_snoc (λ u. weigh h u.taken) vs r in
          let p = b.even h in
          omega arith;
      idle = idle_snoc vs r (λ none. (refl, refl)) (idle_set views pass l (λ none. absurd (omega arith)) b.idle);
    }

-- all that was pushed and taken so far goes with the new pass
pub deals : (pass : ℕ) (v : Ledger) → 1 < v.shares → Forks Balanced pass v (ledger (v.shares - 1) [] []) (ledger 1 v.pushed v.taken)
deals pass v more items views b at =
    let l = ledger (v.shares - 1) [] [] in
    let r = ledger 1 v.pushed v.taken in
    let vs = set views pass l in
    record {
      shares = let s = total-set (λ u. u.shares) views pass v l at in let t = total_snoc (λ u. u.shares) vs r in let p = b.shares in omega arith;
      even = λ h.
          let s = total-set (λ u. weigh h u.pushed) views pass v l at in
          let t = total_snoc (λ u. weigh h u.pushed) vs r in
          let s' = total-set (λ u. weigh h u.taken) views pass v l at in
          let t' = total_snoc (λ u. weigh h u.taken) vs r in
          let p = b.even h in
          omega arith;
      idle = idle_snoc vs r (λ none. absurd (omega arith)) (idle_set views pass l (λ none. (refl, refl)) b.idle);
    }

module _ {A : Type 0} (f : A → ℕ) where
  abbrev pub Held : List A → List Ledger → Type 0
  Held items views = Balanced (map f items) views

  pub gives : (pass : ℕ) (v : Ledger) (x : A) → 0 < v.shares
      → Pushes Held pass v (x ∷ []) (λ w. w ≡ ledger v.shares (v.pushed ++ map f (x ∷ [])) v.taken)
  gives pass v x some_share items views b at =
      let w = ledger v.shares (v.pushed ++ f x ∷ []) v.taken in (
        w,
        record {
          shares = let s = total-set (λ u. u.shares) views pass v w at in let p = b.shares in omega arith;
          even = λ h.
              let s = total-set (λ u. weigh h u.pushed) views pass v w at in
              let t = total-set (λ u. weigh h u.taken) views pass v w at in
              let p = b.even h in
              let m : weigh h (map f (items ++ x ∷ [])) ≡ weigh h (map f items) + weigh h (f x ∷ []) =
              ap (weigh h) (map_snoc f items x) ∙ weigh-append h (map f items) (f x ∷ []) in
              let q = weigh-append h v.pushed (f x ∷ []) in
              omega arith;
          idle = idle_set views pass w (λ none. absurd (omega arith)) b.idle;
        },
        refl,
      )

  -- some tasks leave, wherever they stood
  leaves : (pass : ℕ) (v : Ledger) (xs before after : List A) (views : List Ledger) → 0 < v.shares
      → ((h : ℕ → ℕ) → weigh h (map f before) ≡ weigh h (map f xs) + weigh h (map f after))
      → Held before views → get_elem? views pass ≡ option.some v
      → Held after (set views pass (ledger v.shares v.pushed (v.taken ++ map f xs)))
  leaves pass v xs before after views some_share parted b at =
      let w = ledger v.shares v.pushed (v.taken ++ map f xs) in
      record {
        shares = let s = total-set (λ u. u.shares) views pass v w at in let p = b.shares in omega arith;
        even = λ h.
            let s = total-set (λ u. weigh h u.pushed) views pass v w at in
            let t = total-set (λ u. weigh h u.taken) views pass v w at in
            let p = b.even h in
            let m = parted h in
            let q = weigh-append h v.taken (map f xs) in
            omega arith;
        idle = idle_set views pass w (λ none. absurd (omega arith)) b.idle;
      }

  pub takes : (pass : ℕ) (v : Ledger) (most : ℕ) → 0 < v.shares
      → Takes Held pass v most (λ xs w. w ≡ ledger v.shares v.pushed (v.taken ++ map f xs))
  takes pass v most some_share xs items views one few b at = (
    ledger v.shares v.pushed (v.taken ++ map f xs),
    leaves pass v xs (xs ++ items) items views some_share
        (λ h. ap (weigh h) (map-append f xs items) ∙ weigh-append h (map f xs) (map f items)) b at,
    refl,
  )

  pub pops : (pass : ℕ) (v : Ledger) → 0 < v.shares
      → Pops Held pass v (λ xs w. w ≡ ledger v.shares v.pushed (v.taken ++ map f xs))
  pops pass v some_share x items views b at = (
    ledger v.shares v.pushed (v.taken ++ f x ∷ []),
    leaves pass v (x ∷ []) (items ++ x ∷ []) items views some_share
        (λ h. let e = ap (weigh h) (map-append f items (x ∷ [])) ∙ weigh-append h (map f items) (f x ∷ []) in omega arith) b at,
    refl,
  )

  pub merges : (pass : ℕ) (v : Ledger) (other : ℕ) (u : Ledger) → 0 < v.shares
      → Merges Held pass v other u (ledger (v.shares + u.shares) (v.pushed ++ u.pushed) (v.taken ++ u.taken)) (ledger 0 [] [])
  merges pass v other u some_share items views b at two at' =
      let both = ledger (v.shares + u.shares) (v.pushed ++ u.pushed) (v.taken ++ u.taken) in
      let none = ledger 0 [] [] in
      let vs = set views pass both in
      record {
        shares =
            let s = total-set (λ y. y.shares) views pass v both at in
            let t = total-set (λ y. y.shares) vs other u none at' in
            let p = b.shares in
            omega arith;
        even = λ h.
            let s = total-set (λ y. weigh h y.pushed) views pass v both at in
            let t = total-set (λ y. weigh h y.pushed) vs other u none at' in
            let s' = total-set (λ y. weigh h y.taken) views pass v both at in
            let t' = total-set (λ y. weigh h y.taken) vs other u none at' in
            let p = b.even h in
            let q = weigh-append h v.pushed u.pushed in
            let q' = weigh-append h v.taken u.taken in
            omega arith;
        idle = idle_set vs other none (λ _. (refl, refl)) (idle_set views pass both (λ z. absurd (omega arith)) b.idle);
      }

  -- the pass with every share, when the deque is empty
  pub emptied : (pass : ℕ) (v : Ledger) → Finds Held pass v (KnowsEmpty v)
  emptied pass v views b at every h =
      let p = b.even h in
      let a = alone (λ y. weigh h y.pushed) views pass v at (b.shares ∙ sym every) (λ j u e none. ap (weigh h) (b.idle j u e none).0) in
      let c = alone (λ y. weigh h y.taken) views pass v at (b.shares ∙ sym every) (λ j u e none. ap (weigh h) (b.idle j u e none).1) in
      omega arith
