-- The payload of a pulse in a list of wires: there if the list has passed the pulse, and not there otherwise.
use Rattle.std.proofs.Common.{◌≡◌, ℕ, ◌+◌, ◌*◌, ◌<◌, ◌≤◌, Bool, true, false, List, [], ◌∷◌, Option, Some, None, refl, sym, ap, ◌∙◌, arith, ⊎_elim, ne_eqb}
use Rattle.std.proofs.Common.{eq-eqb}
use Rattle.std.proofs.lemmas.Bool.{cases_eq}
use Rattle.std.specs.Prelude.{is_some}
use Rattle.wires.specs.declared.wire.Wire.{Wire}
use Rattle.wires.specs.declared.wire.Wire.TheVariants.{Payload, Ack, Safe, Close}
use Rattle.wires.specs.Wires.{payload_at}
use Rattle.alpha_core.specs.View.{bit}
use Rattle.alpha_laws.proofs.Cursor.{place, place-grows, place-step}
use Rattle.alpha_laws.specs.Position.{Position, move, moves, Follows}

module _ {M : Type 0} (sends : ℕ → Option M) (last : ℕ) where
  pub at-early : (q : ℕ) (c : Position) (ws : List (Wire M)) → Follows sends last c ws → place (moves c ws) ≤ 2 * q → payload_at q ws ≡ None
  at-early q c [] g le = refl
  at-early q c (Payload r x ∷ ws) g le =
      let grows = place-grows sends last (move c (Payload r x)) ws g.1 in
      let is : r ≡ c.safes = g.0.1 in
      let ne : r ≡ q → ⊥ = λ e. omega arith in
      rw (ne_eqb r q ne) (at-early q (move c (Payload r x)) ws g.1 le)
  at-early q c (Ack r ∷ ws) g le = at-early q c ws g.1 le
  at-early q c (Safe r ∷ ws) g le = at-early q (move {M = M} c (Safe r)) ws g.1 le
  at-early q c (Close ∷ ws) g le = at-early q (move {M = M} c Close) ws g.1 le

  pub at-late : (q : ℕ) (c : Position) (ws : List (Wire M)) → Follows sends last c ws → 2 * q < place c → payload_at q ws ≡ None
  at-late q c [] g lt = refl
  at-late q c (Payload r x ∷ ws) g lt =
      let is : r ≡ c.safes = g.0.1 in
      let no : c.paid ≡ false = g.0.3 in
      let lt2 : 2 * q < 2 * c.safes + 0 = rw no at lt in
      let ne : r ≡ q → ⊥ = λ e. omega arith in
      rw (ne_eqb r q ne) (at-late q (move c (Payload r x)) ws g.1 (omega arith))
  at-late q c (Ack r ∷ ws) g lt = at-late q c ws g.1 lt
  at-late q c (Safe r ∷ ws) g lt = at-late q (move {M = M} c (Safe r)) ws g.1 (omega (arith, place-step sends last c (Safe r) g.0))
  at-late q c (Close ∷ ws) g lt = at-late q (move {M = M} c Close) ws g.1 lt

  pub at-passed : (q : ℕ) (c : Position) (ws : List (Wire M)) → Follows sends last c ws → place c ≤ 2 * q → 2 * q < place (moves c ws) →
      payload_at q ws ≡ sends q
  at-passed q c [] g le lt = absurd (omega arith)
  at-passed q c (Payload r x ∷ ws) g le lt = ⊎_elim
      (λ same. rw (eq-eqb r q same) (sym (ap sends (sym same) ∙ g.0.2)))
      (λ ne. rw (ne_eqb r q ne) (at-passed q (move c (Payload r x)) ws g.1 (let is : r ≡ c.safes = g.0.1 in omega arith) lt))
      (cases_eq r q)
  at-passed q c (Ack r ∷ ws) g le lt = at-passed q c ws g.1 le lt
  at-passed q c (Safe r ∷ ws) g le lt = ⊎_elim
      (λ same.
      let is : r ≡ c.safes = g.0.1 in
      let none : c.paid ≡ false = unpaid c.safes c.paid q (sym is ∙ same) le in
      at-late q (move {M = M} c (Safe r)) ws g.1 (omega arith) ∙ sym (none_sent (sends q) (sym none ∙ g.0.2 ∙ ap (λ n. is_some (sends n)) same)))
      (λ ne. at-passed q (move {M = M} c (Safe r)) ws g.1 (let is : r ≡ c.safes = g.0.1 in omega arith) lt)
      (cases_eq r q)
    where
      unpaid : (n : ℕ) (b : Bool) (q : ℕ) → n ≡ q → 2 * n + bit b ≤ 2 * q → b ≡ false
      unpaid n true q e le = absurd (omega arith)
      unpaid n false q e le = refl

      none_sent : (o : Option M) → false ≡ is_some o → o ≡ None
      none_sent None e = refl
      none_sent (Some x) e = cc
  at-passed q c (Close ∷ ws) g le lt = at-passed q (move {M = M} c Close) ws g.1 le lt
