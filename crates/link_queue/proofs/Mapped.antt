-- A step that keeps a rule of what a function makes of the items of a queue.
use Rattle.std.proofs.Common.{◌≡◌, ◌<◌, ℕ, List, [], ◌∷◌, map, set, sym, ◌∙◌, subst}
use Rattle.std.proofs.lemmas.List.{length-map, map-append}
use Rattle.crossbeam_queue.specs.Fifo.{Pushes, Pops, Forks, Merges, Learns, Held}

module _ {T A V : Type 0} (f : T → A) (holds : List A → List V → Type 0) where
  pub mapped_pushes : (n pass : ℕ) (v : V) (x : T) (y : A) (told : A → V → Type 0) → f x ≡ y → Pushes holds n pass v y (told y)
      → Pushes (λ items. holds (map f items)) n pass v x (told (f x))
  mapped_pushes n pass v x y told is step items views less h at =
      let now = subst (λ z. Pushes holds n pass v z (told z)) (sym is) step in
      let s = now (map f items) views (subst (λ k. k < n) (sym (length-map items f)) less) h at in
      (s.0, subst (λ l. holds l (set views pass s.0)) (sym (map-append f items (x ∷ []))) s.1, s.2)

  pub mapped_pops : (pass : ℕ) (v : V) (told : A → V → Type 0) → Pops holds pass v told → Pops (λ items. holds (map f items)) pass v (λ x. told (f x))
  mapped_pops pass v told step x items views h at = step (f x) (map f items) views h at

  pub mapped_forks : (pass : ℕ) (v left right : V) → Forks holds pass v left right → Forks (λ items. holds (map f items)) pass v left right
  mapped_forks pass v left right step items views h at = step (map f items) views h at

  pub mapped_merges : (pass : ℕ) (v : V) (other : ℕ) (w both spent : V) → Merges holds pass v other w both spent
      → Merges (λ items. holds (map f items)) pass v other w both spent
  mapped_merges pass v other w both spent step items views h at apart there = step (map f items) views h at apart there

  pub mapped_learns : (pass : ℕ) (v : V) (fact : List A → Type 0) → Learns holds pass v fact
      → Learns (λ items. holds (map f items)) pass v (λ items. fact (map f items))
  mapped_learns pass v fact step items views h at = step (map f items) views h at

-- what the items had at that moment, what the function makes of them had
pub mapped_held : {T A : Type 0} (f : T → A) (n : ℕ) (fact : List A → Type 0) → Held n (λ items. fact (map f items)) → Held n fact
mapped_held f n fact h = (map f h.0, length-map h.0 f ∙ h.1, h.2)
