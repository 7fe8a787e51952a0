-- Two entries of a table that are written one after the other.
use Rattle.std.proofs.Common.{◌≡◌, ℕ, ◌-◌, ◌<◌, List, [], length, get_or, set, sym, ap, ◌∙◌, subst, arith, ⊎_elim}
use Rattle.std.proofs.lemmas.Bool.{cases_eq}
use Rattle.std.proofs.lemmas.List.{get_or-set_same, get_or-set_other, set_comm, set-set}
use Rattle.event_rule.specs.State.{Link, HasLink, no_link, link_at, set_link}

-- an entry becomes what a function makes of it
abbrev becomes : {A : Type 0} → ℕ → (A → A) → A → List A → List A
becomes i g d l = set l i (g (get_or l i d))

becomes-same : {A : Type 0} (l : List A) (i : ℕ) (g h : A → A) (d : A) → i < length l → becomes i h d (becomes i g d l) ≡ set l i (h (g (get_or l i d)))
becomes-same l i g h d lt =
    ap (λ x. set (set l i (g (get_or l i d))) i (h x)) (get_or-set_same l i (g (get_or l i d)) d lt)
    ∙ set-set l i (g (get_or l i d)) (h (g (get_or l i d)))

becomes-both : {A : Type 0} (l : List A) (i j : ℕ) (g h : A → A) (d : A) → i < length l → j < length l
    → (i ≡ j → h (g (get_or l i d)) ≡ g (h (get_or l i d))) → becomes j h d (becomes i g d l) ≡ becomes i g d (becomes j h d l)
becomes-both l i j g h d li lj same = ⊎_elim
    (λ e. subst (λ k. becomes k h d (becomes i g d l) ≡ becomes i g d (becomes k h d l)) e
    (becomes-same l i g h d li ∙ ap (λ x. set l i x) (same e) ∙ sym (becomes-same l i h g d li)))
    (λ ne.
    let back : j ≡ i → ⊥ = λ e. ne (sym e) in
    ap (λ x. set (set l i (g (get_or l i d))) j (h x)) (get_or-set_other l i j (g (get_or l i d)) d back)
    ∙ set_comm l i j (g (get_or l i d)) (h (get_or l j d)) ne
    ∙ ap (λ x. set (set l j (h (get_or l j d))) i (g x)) (sym (get_or-set_other l j i (h (get_or l j d)) d ne)))
    (cases_eq i j)

module _ {M : Type 0} where
  -- a link becomes what a function makes of it
  abbrev pub link_becomes : ℕ → ℕ → (Link M → Link M) → List (List (Link M)) → List (List (Link M))
  link_becomes v i g links = set_link links v i (g (link_at links v i))

  pub links-both : (links : List (List (Link M))) (v i u j : ℕ) (g h : Link M → Link M) → HasLink links v i → HasLink links u j
      → (v ≡ u → i ≡ j → h (g (link_at links v i)) ≡ g (h (link_at links v i)))
      → link_becomes u j h (link_becomes v i g links) ≡ link_becomes v i g (link_becomes u j h links)
  links-both links v i u j g h (lv, rv, iv) (lu, ru, ju) same =
      becomes-both links (v - 1) (u - 1) (λ row. becomes i g no_link row) (λ row. becomes j h no_link row) [] rv ru (λ e.
      let e' : v ≡ u = omega arith in
      becomes-both (get_or links (v - 1) []) i j g h no_link iv (subst (λ k. j < length (get_or links k [])) (sym e) ju) (λ f. same e' f))
