-- How the least number with a test is known.
use Rattle.std.proofs.Common.{◌≡◌, ℕ, ◌<◌, Bool, true, false, sym, ◌∙◌, arith, inl, inr}
use Rattle.std.proofs.lemmas.Bool.{cases_order}
use native.Mathlib.Decide.{dec_lt}
use Prim.{yes, no}
use Rattle.colour_base.specs.Least.{least}
use Rattle.colour_base.proofs.LeastLemmas.{least-at_most, least-first, least-found, least-holds, least-within}

-- a number with the test, and none before it, is the least
pub least-is : (test : ℕ → Bool) (n k : ℕ) → k < n → test k ≡ true → ((j : ℕ) → j < k → test j ≡ false) → least test n ≡ k
least-is test n k below holds first =
    let found : test (least test n) ≡ true = least-found test n k below holds in
    elim (cases_order (least test n) k) [
      | inl met ↦ met
      | inr side ↦ elim side [
        | inl lower ↦ (let none : test (least test n) ≡ false = first (least test n) lower in absurd (cc))
        | inr higher ↦ absurd (omega (arith, least-at_most test n k holds))
      ]
    ]

pub least-none : (test : ℕ → Bool) (n : ℕ) → ((j : ℕ) → j < n → test j ≡ false) → least test n ≡ n
least-none test n none =
    elim (cases_order (least test n) n) [
      | inl met ↦ met
      | inr side ↦ elim side [
        | inl lower ↦ (let found : test (least test n) ≡ true = least-holds test n lower in let fails : test (least test n) ≡ false =
            none (least test n) lower in absurd (cc))
        | inr higher ↦ absurd (omega (arith, least-within test n))
      ]
    ]

-- tests that agree below a bound have one least number below it
pub least-same : (test other : ℕ → Bool) (n : ℕ) → ((j : ℕ) → j < n → test j ≡ other j) → least test n ≡ least other n
least-same test other n same =
    elim (dec_lt (least other n) n) [
      | yes below ↦
          least-is test n (least other n) below
          (same (least other n) below ∙ least-holds other n below)
          (λ j lower. same j (omega arith) ∙ least-first other n j lower)
      | no full ↦
          let all : least other n ≡ n = omega (arith, least-within other n) in
          least-none test n (λ j below. same j below ∙ least-first other n j (omega arith)) ∙ sym all
    ]
