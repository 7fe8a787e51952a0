-- What one worker hands back, beside the tasks so far.
use Rattle.std.proofs.Common.{◌≡◌, ℕ, ◌+◌, List, [], ◌∷◌, ◌++◌, map, ap, ◌∙◌, arith, Option, Some, None}
use Rattle.std.proofs.lemmas.List.{map-append}
use Rattle.deque_rule.specs.Ledgers.{in_hand, weigh}
use Rattle.deque_rule.proofs.Rule.{map_snoc, weigh-append}

module _ {A : Type 0} (f : A → ℕ) (tasks finished : List A) where
  -- the tasks so far with those that it finished
  abbrev Weighs : (ℕ → ℕ) → List A → List ℕ → Type 0
  Weighs h new more = weigh h (map f new) ≡ weigh h (map f tasks) + weigh h more

  pub no_task : (held : Option A) (new : List A) → held ≡ None → new ≡ tasks ++ finished → (h : ℕ → ℕ) → Weighs h new (in_hand f held ++ map f finished)
  no_task held new none e h =
      let m = ap (λ l. weigh h (map f l)) e ∙ ap (weigh h) (map-append f tasks finished) ∙ weigh-append h (map f tasks) (map f finished) in
      let o = ap (λ o. weigh h (in_hand f o ++ map f finished)) none in
      omega arith

  pub one_task : (held : Option A) (x : A) (mid new : List A) → held ≡ Some x → mid ≡ tasks ++ finished → new ≡ mid ++ x ∷ [] → (h : ℕ → ℕ)
      → Weighs h new (in_hand f held ++ map f finished)
  one_task held x mid new some e e' h =
      let m = ap (λ l. weigh h (map f l)) e ∙ ap (weigh h) (map-append f tasks finished) ∙ weigh-append h (map f tasks) (map f finished) in
      let n = ap (λ l. weigh h (map f l)) e' ∙ ap (weigh h) (map_snoc f mid x) ∙ weigh-append h (map f mid) (f x ∷ []) in
      let o = ap (λ o. weigh h (in_hand f o ++ map f finished)) some in
      omega arith
