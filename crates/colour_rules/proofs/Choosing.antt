-- Whether a colour is left for a node, and what a node does at its turn.
use Rattle.std.proofs.Common.{◌≡◌, ◌≢◌, ℕ, suc, ◌+◌, ◌*◌, ◌/◌, ◌%◌, ◌<◌, ◌≤◌, ◌==◌, Bool, true, false, [], refl, ap, sym, subst, ◌∙◌, arith}
use Rattle.std.specs.Prelude.{if◌then◌else◌, not, nat_le, nat_lt, IsTrue, ◌↔◌, Option, Some, None, slice_index}
use Rattle.std.proofs.lemmas.Bool.{lt-leb, eq-eqb, ne_eqb, not-true}
use Rattle.std.proofs.lemmas.Nat.{div_below}
use Rattle.std.proofs.lemmas.Bool.Decides.{nat_tests}
use native.Mathlib.Decide.{dec_lt}
use Prim.{yes, no}
use Rattle.colour_base.proofs.LeastLemmas.{least-at_most, least-holds}
use Rattle.colour_rules.specs.declared.rules.TheConstants.{COLOUR_RANGE}
use Rattle.node_api.specs.Program.{span}
use Rattle.forest_merge.specs.Free.{HasFree, least_free_colour}
use Rattle.colour_rules.specs.Node.{Node, steps}
use Rattle.colour_rules.specs.Choice.{chooses, with_heard}
use Rattle.colour_rules.proofs.Pairs.{pair_test}

-- a number that is too high is another than one that is low
not_both : (a b most : ℕ) → most < a → b < suc most → a ≡ b → ⊥
not_both a b most high low e = omega arith

-- the least free colour is too high where none is free
pub least_free_colour-high : (limit : ℕ) (is_taken : ℕ → Bool) (free : Bool) → (IsTrue free ↔ HasFree limit is_taken) →
    nat_lt limit (least_free_colour limit is_taken) ≡ not free
least_free_colour-high limit is_taken true h =
    let some : HasFree limit is_taken = h.0 refl in
    let low : least_free_colour limit is_taken ≤ some.0 = least-at_most (λ c. not (is_taken c)) (suc limit) some.0 (ap not some.2) in
    let most : least_free_colour limit is_taken ≤ limit = omega (arith, some.1) in
    grind (arith, nat_tests)
least_free_colour-high limit is_taken false h =
    elim (dec_lt limit (least_free_colour limit is_taken)) [
      | yes above ↦ grind (arith, nat_tests)
      | no within ↦
          let low : least_free_colour limit is_taken ≤ limit = omega arith in
          let holds : not (is_taken (least_free_colour limit is_taken)) ≡ true = least-holds (λ c. not (is_taken c)) (suc limit) (omega arith) in
          let wrong : IsTrue false = h.1 (least_free_colour limit is_taken, low, not-true (is_taken (least_free_colour limit is_taken)) holds) in
          absurd (cc)
    ]

-- the rule of colours, where something is so
abbrev pub rule_if : Bool → Option ℕ
rule_if b = if b then Some COLOUR_RANGE else None

-- a node at its turn breaks a rule where no colour is left for it, and else it breaks none
pub turn-rule : (turn high none_free : Bool) → true ≡ turn → high ≡ none_free → (if turn then rule_if high else None) ≡ rule_if none_free
turn-rule true high none_free e h = ap rule_if h
turn-rule false high none_free e h = absurd (cc)

-- where the least free colour is not too high, one is free
pub HasFree-low : (limit : ℕ) (is_taken : ℕ → Bool) → least_free_colour limit is_taken ≤ limit → HasFree limit is_taken
HasFree-low limit is_taken low =
    let holds : not (is_taken (least_free_colour limit is_taken)) ≡ true = least-holds (λ c. not (is_taken c)) (suc limit) (omega arith) in
    (least_free_colour limit is_taken, low, not-true (is_taken (least_free_colour limit is_taken)) holds)

-- the old colour at a step: the merged one at the first, and later the one from before
pub old-first : (s old merged before : ℕ) → s ≡ 0 → old ≡ merged → old ≡ (if s == 0 then merged else before)
old-first s old merged before first is = is ∙ ap (λ (b : Bool). if b then merged else before) (sym (eq-eqb s 0 first))

pub old-later : (s old merged before : ℕ) → s ≢ 0 → old ≡ before → old ≡ (if s == 0 then merged else before)
old-later s old merged before later is = is ∙ ap (λ (b : Bool). if b then merged else before) (sym (ne_eqb s 0 later))

module _ (node : Node) (f s three : ℕ) (own : three ≡ slice_index node.colours f) where
  -- it is the node's turn at the step of the pair of its three-colour and its old colour
  pub chooses-at : (width old : ℕ) → width ≡ span node.sizes → old ≡ (with_heard node s []).colour_before → old ≤ span node.sizes →
      (three * (width + 1) + old == s) ≡ chooses (with_heard node s []) f s
  chooses-at width old wide is low =
      (λ i. own i * (wide i + 1) + is i == s)
      ∙ sym (pair_test (slice_index node.colours f) (with_heard node s []).colour_before (span node.sizes + 1) s
      (subst (λ (n : ℕ). n < span node.sizes + 1) is (omega (arith, low))))

  -- and at none if it has no three-colour
  pub chooses-never : 2 < three → s < steps node.sizes → nat_le three 2 ≡ chooses (with_heard node s []) f s
  chooses-never high within =
      let below : s / (span node.sizes + 1) < 3 = div_below s (span node.sizes + 1) 3 (omega arith) within in
      let apart : (slice_index node.colours f == s / (span node.sizes + 1)) ≡ false =
      ne_eqb (slice_index node.colours f) (s / (span node.sizes + 1)) (λ e. not_both three _ 2 high below (own ∙ e)) in
      lt-leb three 2 high
      ∙ sym (ap (λ (b : Bool). if b then (with_heard node s []).colour_before == s % (span node.sizes + 1) else false) apart)
