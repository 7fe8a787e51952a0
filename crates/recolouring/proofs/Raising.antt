-- The colour to which a node rises.
use Rattle.std.proofs.Common.{◌≡◌, ℕ, zero, suc, ◌+◌, ◌-◌, ◌<◌, ◌≤◌, Bool, true, false, ap, arith, inl, inr, ◌∙◌, refl}
use Rattle.std.specs.Prelude.{if◌then◌else◌, not, ◌&&◌, ◌||◌, ◌⊎◌}
use Rattle.std.specs.FinSet.{FinSet, contains}
use Rattle.std.specs.Ordering.{nat_cmp}
use Rattle.std.proofs.lemmas.Bool.{and_parts, or_cases}
use Rattle.recolouring.specs.Knowing.{is_taken, raised}

-- what holds of both choices
by-test : (a : Bool) (x y : ℕ) (P : ℕ → Type 0) → (a ≡ true → P x) → P y → P (if a then x else y)
by-test true x y P f g = f refl
by-test false x y P f g = g

not-false-of : (b : Bool) → not b ≡ true → b ≡ false
not-false-of true e = absurd cc
not-false-of false e = refl

module _ (chosen barred : FinSet nat_cmp) (before : ℕ) where
  abbrev here : ℕ → Bool → ℕ
  here d under = raised chosen barred before d under

  abbrev test : ℕ → Bool → Bool
  test d under = under && not (is_taken chosen barred (before + suc d))

  abbrev next : ℕ → Bool → Bool
  next d under = under || contains chosen (before + suc d)

  pub raised-low : (d : ℕ) (under : Bool) → before ≤ here d under
  raised-low zero under = omega arith
  raised-low (suc d) under = by-test (test d under) (before + suc d) (here d (next d under)) (λ r. before ≤ r)
      (λ is. omega arith) (raised-low d (next d under))

  pub raised-high : (d : ℕ) (under : Bool) → here d under ≤ before + d
  raised-high zero under = omega arith
  raised-high (suc d) under = by-test (test d under) (before + suc d) (here d (next d under)) (λ r. r ≤ before + suc d)
      (λ is. omega arith) (let rest = raised-high d (next d under) in omega (arith, rest))

  -- it is the colour before, or free
  abbrev Free : ℕ → Type 0
  Free r = (r ≡ before) ⊎ (is_taken chosen barred r ≡ false)

  pub raised-free : (d : ℕ) (under : Bool) → Free (here d under)
  raised-free zero under = inl refl
  raised-free (suc d) under = by-test (test d under) (before + suc d) (here d (next d under)) Free
      (λ is. inr (not-false-of (is_taken chosen barred (before + suc d)) (and_parts under (not (is_taken chosen barred (before + suc d))) is).1))
      (raised-free d (next d under))

  -- and below one that a neighbour has chosen
  abbrev Below : Bool → ℕ → Type 0
  Below under r = (r ≡ before) ⊎ ((under ≡ true) ⊎ ((c : ℕ) × (r < c) × (contains chosen c ≡ true)))

  from-next : (d : ℕ) (under : Bool) → Below (next d under) (here d (next d under)) → Below under (here d (next d under))
  from-next d under below = elim below [
    | inl same ↦ inl same
    | inr more ↦ elim more [
      | inl either ↦ elim (or_cases under (contains chosen (before + suc d)) either) [
        | inl is_under ↦ inr (inl is_under)
        | inr is_chosen ↦
            inr (inr (before + suc d, (let most = raised-high d (next d under) in omega (arith, most)), is_chosen))
      ]
      | inr above ↦ inr (inr above)
    ]
  ]

  pub raised-below : (d : ℕ) (under : Bool) → Below under (here d under)
  raised-below zero under = inl refl
  raised-below (suc d) under = by-test (test d under) (before + suc d) (here d (next d under)) (Below under)
      (λ is. inr (inl (and_parts under (not (is_taken chosen barred (before + suc d))) is).0))
      (from-next d under (raised-below d (next d under)))

-- a step of the search, from the greatest down
pub raised-step : (chosen barred : FinSet nat_cmp) (before c : ℕ) (under : Bool) → before < c →
    raised chosen barred before (c - before) under
    ≡ (if under && not (is_taken chosen barred c) then c else raised chosen barred before (c - 1 - before) (under || contains chosen c))
raised-step chosen barred before c under h =
    let d : ℕ = c - 1 - before in
    let at : c - before ≡ suc d = omega (arith, h) in
    let top : before + suc d ≡ c = omega (arith, h) in
    ap (λ (n : ℕ). raised chosen barred before n under) at
    ∙ ap (λ (n : ℕ). if under && not (is_taken chosen barred n) then n
    else raised chosen barred before d (under || contains chosen n)) top
