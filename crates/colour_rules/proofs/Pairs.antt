-- The pulses and steps of the merging, and the pairs that they stand for.
use Rattle.std.proofs.Common.{◌≡◌, ℕ, ◌+◌, ◌-◌, ◌*◌, ◌/◌, ◌%◌, ◌<◌, ◌≤◌, ◌==◌, Bool, true, false, refl, ap, sym, ◌∙◌, arith}
use Rattle.std.specs.Prelude.{if◌then◌else◌, nat_le, nat_lt}
use Rattle.colour_rules.specs.declared.phase.TheConstants.{FIRST_MERGE}
use Rattle.std.proofs.lemmas.Bool.Decides.{nat_tests}
use Rattle.std.proofs.lemmas.Bool.{le-ltb, le-leb}
use Rattle.std.proofs.Math.Nat.{mul-le-mul_right}
use Rattle.std.proofs.lemmas.Nat.{div-mul-add, mod-mul-add, div-add-mod'}
use Rattle.node_api.specs.Program.{Sizes}
use Rattle.colour_rules.specs.declared.phase.Phase.TheVariants.{Merge}
use Rattle.colour_rules.specs.Node.{last, phase_of, steps}

pub same_bool : (a b : Bool) → (a ≡ true → b ≡ true) → (b ≡ true → a ≡ true) → a ≡ b
same_bool true true f g = refl
same_bool false false f g = refl
same_bool true false f g = sym (f refl)
same_bool false true f g = g refl

-- k * w + j is read off by quotient and remainder
pub pair_test : (k j w s : ℕ) → j < w → (if k == s / w then j == s % w else false) ≡ (k * w + j == s)
pair_test k j w s h =
    same_bool (if k == s / w then j == s % w else false) (k * w + j == s)
    (λ e.
    let a : k ≡ s / w = grind (arith, nat_tests) in
    let b : j ≡ s % w = grind (arith, nat_tests) in
    let c : s / w * w + s % w ≡ s = div-add-mod' s w in
    let d : k * w + j ≡ s = rw (a, b) c in
    grind (arith, nat_tests))
    (λ e.
    let d : k * w + j ≡ s = grind (arith, nat_tests) in
    let a : s / w ≡ k = ap (λ x. x / w) (sym d) ∙ div-mul-add k w j h in
    let b : s % w ≡ j = ap (λ x. x % w) (sym d) ∙ mod-mul-add k w j h in
    rw (a, b) (grind (arith, nat_tests)))

-- the pulse of a step of a forest
pub phase_merge : (sizes : Sizes) (f s : ℕ) → f < sizes.forests → s < steps sizes → phase_of sizes (FIRST_MERGE + (f * steps sizes + s)) ≡ Merge f s
phase_merge sizes f s in_range below =
    let p : ℕ = FIRST_MERGE + (f * steps sizes + s) in
    let products : (f + 1) * steps sizes ≤ sizes.forests * steps sizes = mul-le-mul_right (steps sizes) (omega arith) in
    let e0 : (p == 0) ≡ false = grind (arith, nat_tests) in
    let e1 : (p == 1) ≡ false = grind (arith, nat_tests) in
    let e2 : (p == 2) ≡ false = grind (arith, nat_tests) in
    let e3 : nat_lt p FIRST_MERGE ≡ false = le-ltb p FIRST_MERGE (omega arith) in
    let e4 : nat_le p (last sizes) ≡ true = le-leb p (last sizes) (omega arith) in
    let less : p - FIRST_MERGE ≡ f * steps sizes + s = omega arith in
    let forest : (p - FIRST_MERGE) / steps sizes ≡ f = ap (λ x. x / steps sizes) less ∙ div-mul-add f (steps sizes) s below in
    let step : (p - FIRST_MERGE) % steps sizes ≡ s = ap (λ x. x % steps sizes) less ∙ mod-mul-add f (steps sizes) s below in
    rw (e0, e1, e2, e3, e4, forest, step) refl
