-- The colours of the parents, heard one payload after another.
use Rattle.std.proofs.Common.{◌≡◌, ◌≢◌, ℕ, zero, suc, ◌+◌, ◌-◌, ◌<◌, ◌≤◌, ◌==◌, Bool, true, false, List, ◌∷◌, length, refl, ap, sym, ◌∙◌, arith, drop, get_or}
use Rattle.std.specs.Prelude.{if◌then◌else◌, Option, Some, None}
use Rattle.std.proofs.lemmas.Bool.Decides.{nat_tests}
use Rattle.std.proofs.lemmas.List.{drop_more, drop_all}
use Rattle.node_api.proofs.Filled.{none_unless}
use native.Mathlib.Decide.{dec_lt}
use Prim.{yes, no}
use Rattle.node_api.specs.Boxes.{Mail, Reads, HasFrom, at_port}
use Rattle.forests.specs.declared.numbering.Role.{Role}
use Rattle.forests.specs.declared.numbering.Role.TheVariants.{Unknown, Up, Down}
use Rattle.colour_rules.specs.declared.payload.Payload.{Payload}
use Rattle.colour_rules.specs.declared.payload.Payload.TheVariants.{Colour}
use Rattle.colour_rules.specs.Program.{HaveColours, is_up, colour_in, from_parent}

-- where nothing is left to be read, nothing stands at the ports that are left
pub none-past : (slots : List (Option Payload)) (cursor : ℕ) → (HasFrom slots cursor → ⊥) → (k : ℕ) → cursor ≤ k → k < length slots → at_port slots k ≡ None
none-past slots cursor end k low h = none_unless (at_port slots k) (λ some. end (k, low, h, some))

not_up : (f : ℕ) (role : Role) → ((g : ℕ) → role ≡ Up g → ⊥) → is_up f role ≡ false
not_up f Unknown h = refl
not_up f (Up g) h = absurd (h g refl)
not_up f (Down g) h = refl

module _ (roles : List Role) (slots : List (Option Payload)) where
  at_port-next : (f k : ℕ) → length slots ≡ length roles → k < length roles →
      from_parent f (drop k roles) (drop k slots) ≡ (if is_up f (get_or roles k Unknown) then colour_in (at_port slots k) else from_parent f
      (drop (k + 1) roles) (drop (k + 1) slots))
  at_port-next f k ports h =
      ap (λ (rs : List Role). from_parent f rs (drop k slots)) (drop_more roles k Unknown h)
      ∙ ap (λ (ss : List (Option Payload)). from_parent f (get_or roles k Unknown ∷ drop (k + 1) roles) ss) (drop_more slots k None (omega arith))

  passes : (f k : ℕ) → length slots ≡ length roles → k < length roles → is_up f (get_or roles k Unknown) ≡ false →
      from_parent f (drop k roles) (drop k slots) ≡ from_parent f (drop (k + 1) roles) (drop (k + 1) slots)
  passes f k ports h e = at_port-next f k ports h ∙ ap (λ (b : Bool). if b then colour_in (at_port slots k) else from_parent f (drop (k + 1) roles)
      (drop (k + 1) slots)) e

  stops : (f k c : ℕ) → length slots ≡ length roles → k < length roles → is_up f (get_or roles k Unknown) ≡ true → at_port slots k ≡ Some (Colour c) →
      from_parent f (drop k roles) (drop k slots) ≡ Some c
  stops f k c ports h e slot =
      at_port-next f k ports h
      ∙ (ap (λ (b : Bool). if b then colour_in (at_port slots k) else from_parent f (drop (k + 1) roles) (drop (k + 1) slots)) e ∙ ap colour_in slot)

  -- no colour comes from ports that brought nothing
  skips : (gap f i : ℕ) → HaveColours roles slots → length slots ≡ length roles → i + gap ≤ length roles →
      ((k : ℕ) → i ≤ k → k < i + gap → at_port slots k ≡ None) →
      from_parent f (drop i roles) (drop i slots) ≡ from_parent f (drop (i + gap) roles) (drop (i + gap) slots)
  skips zero f i colours ports h none = ap (λ (k : ℕ). from_parent f (drop k roles) (drop k slots)) (let e : i ≡ i + 0 = omega arith in e)
  skips (suc gap) f i colours ports h none =
      let here : at_port slots i ≡ None = none i (omega arith) (omega arith) in
      passes f i ports (omega arith) (not_up f (get_or roles i Unknown) (λ g up. let came = colours i g (omega arith) up in absurd (cc came.1)))
      ∙ (skips gap f (i + 1) colours ports (omega arith) (λ k low high. none k (omega arith) (omega arith))
      ∙ ap (λ (k : ℕ). from_parent f (drop k roles) (drop k slots)) (let e : i + 1 + gap ≡ i + suc gap = omega arith in e))

  -- where nothing is left to be read, no colour is left to be heard
  pub none-left : (cursor : ℕ) → HaveColours roles slots → length slots ≡ length roles → (HasFrom slots cursor → ⊥) → (f : ℕ) →
      from_parent f (drop cursor roles) (drop cursor slots) ≡ None
  none-left cursor colours ports end f =
      elim (dec_lt cursor (length roles)) [
        | yes below ↦
            skips (length roles - cursor) f cursor colours ports (omega arith) (λ k low high. none-past slots cursor end k low (omega arith))
            ∙ ap (λ (rs : List Role). from_parent f rs (drop (cursor + (length roles - cursor)) slots))
            (drop_all (cursor + (length roles - cursor)) roles (omega arith))
        | no other ↦ ap (λ (rs : List Role). from_parent f rs (drop cursor slots)) (drop_all cursor roles (omega arith))
      ]

  -- A payload is read that came at port k.
  pub record Comes (mail new : Mail Payload) (payload : Payload) (k : ℕ) : Type 0 where
    pub same : mail.slots ≡ slots
    pub reads : Reads mail payload new
    pub at : k + 1 ≡ new.cursor

  module _ {mail new : Mail Payload} {payload : Payload} {k : ℕ} (comes : Comes mail new payload k) (colours : HaveColours roles slots)
      (ports : length slots ≡ length roles) where
    pub here : k < length roles
    here = omega (arith, ports, comes.at, comes.reads.within, ap (λ (s : List (Option Payload)). length s) comes.same)

    slot : at_port slots k ≡ Some payload
    slot = ap (λ (s : List (Option Payload)). at_port s k) (sym comes.same) ∙ comes.reads.here k comes.at

    reaches : (f : ℕ) → from_parent f (drop mail.cursor roles) (drop mail.cursor slots) ≡ from_parent f (drop k roles) (drop k slots)
    reaches f =
        let there : mail.cursor + (k - mail.cursor) ≡ k = omega (arith, comes.at, comes.reads.later) in
        let inside : k < length roles = here in
        skips (k - mail.cursor) f mail.cursor colours ports (omega (arith, comes.at, comes.reads.later))
        (λ j low high. ap (λ (s : List (Option Payload)). at_port s j) (sym comes.same) ∙
        comes.reads.first j low (omega (arith, comes.at, comes.reads.later)))
        ∙ ap (λ (j : ℕ). from_parent f (drop j roles) (drop j slots)) there

    past : (f : ℕ) → is_up f (get_or roles k Unknown) ≡ false → from_parent f (drop mail.cursor roles) (drop mail.cursor slots)
        ≡ from_parent f (drop new.cursor roles) (drop new.cursor slots)
    past f e = reaches f ∙ (passes f k ports here e ∙ ap (λ (j : ℕ). from_parent f (drop j roles) (drop j slots)) comes.at)

    -- a port that leads to no parent leaves every forest to be heard
    pub other-past : ((g : ℕ) → get_or roles k Unknown ≡ Up g → ⊥) → (f : ℕ) →
        from_parent f (drop mail.cursor roles) (drop mail.cursor slots) ≡ from_parent f (drop new.cursor roles) (drop new.cursor slots)
    other-past other f = past f (not_up f (get_or roles k Unknown) other)

    module _ (g : ℕ) (up : get_or roles k Unknown ≡ Up g) where
      -- a port to a parent leaves the other forests to be heard
      pub parent-past : (f : ℕ) → f ≢ g →
          from_parent f (drop mail.cursor roles) (drop mail.cursor slots) ≡ from_parent f (drop new.cursor roles) (drop new.cursor slots)
      parent-past f other = past f (ap (is_up f) up ∙ (let t : (f == g) ≡ false = grind (arith, nat_tests) in t))

      -- and brings the first colour that is left of this parent
      pub parent-here : from_parent g (drop mail.cursor roles) (drop mail.cursor slots) ≡ colour_in (Some payload)
      parent-here =
          let came = colours k g here up in
          let is_up_here : is_up g (get_or roles k Unknown) ≡ true = ap (is_up g) up ∙ (let t : (g == g) ≡ true = grind (arith, nat_tests) in t) in
          reaches g ∙ (stops g k came.0 ports here is_up_here came.1 ∙ (sym (ap colour_in came.1) ∙ ap colour_in slot))
