-- The pulses of the merging are its steps in order, and the turn of a node is the step of its pair.
use Rattle.std.proofs.Common.{◌≡◌, ℕ, ◌+◌, ◌*◌, ◌/◌, ◌%◌, ◌<◌, ◌==◌, false, ap, sym, ◌∙◌, arith}
use Rattle.std.specs.Prelude.{if◌then◌else◌, IsTrue, ◌↔◌, slice_index}
use Rattle.std.proofs.lemmas.Bool.Decides.{nat_tests}
use Rattle.std.proofs.lemmas.Nat.{div-add-mod', div_below, mod_below}
use Rattle.std.proofs.Math.Nat.{mul-add-mod_self_right}
use Rattle.node_api.specs.Program.{Sizes, span}
use Rattle.forest_merge.specs.Step.{step_of}
use Rattle.colour_rules.specs.declared.phase.TheConstants.{FIRST_MERGE}
use Rattle.colour_rules.specs.declared.phase.Phase.TheVariants.{Merge}
use Rattle.colour_rules.specs.Choice.{chooses}
use Rattle.colour_rules.specs.Node.{Node, phase_of, steps}
use Rattle.colour_rules.proofs.Pairs.{phase_merge}

pub phase-step : (sizes : Sizes) (t : ℕ) → t < sizes.forests * steps sizes →
    phase_of sizes (FIRST_MERGE + t) ≡ Merge (step_of t (span sizes)).0 (t % steps sizes)
phase-step sizes t h =
    let w : ℕ = steps sizes in
    let some : 0 < w = omega arith in
    let whole : t / w * w + t % w ≡ t = div-add-mod' t w in
    ap (λ (n : ℕ). phase_of sizes (FIRST_MERGE + n)) (sym whole)
    ∙ phase_merge sizes (t / w) (t % w) (div_below t w sizes.forests some h) (mod_below t w some)

-- within its forest, a step has the same old colour
old-same : (t colours : ℕ) → t % (3 * colours) % colours ≡ t % colours
old-same t colours =
    let w : ℕ = 3 * colours in
    let whole : t / w * w + t % w ≡ t = div-add-mod' t w in
    let threes : t / w * 3 * colours + t % w ≡ t / w * w + t % w = omega arith in
    sym (mul-add-mod_self_right (t / w * 3) colours (t % w)) ∙ ap (λ (n : ℕ). n % colours) (threes ∙ whole)

pair-is : (a b x y : ℕ) → IsTrue (if a == x then b == y else false) ↔ ((a ≡ x) × (b ≡ y))
pair-is a b x y = (
  λ h. (let e : a ≡ x = grind (arith, nat_tests) in e, let e : b ≡ y = grind (arith, nat_tests) in e),
  λ e. let first : a ≡ x = e.0 in let second : b ≡ y = e.1 in grind (arith, nat_tests),
)

pub turn-is : (node : Node) (t : ℕ) → IsTrue (chooses node (step_of t (span node.sizes)).0 (t % steps node.sizes)) ↔
    ((slice_index node.colours (step_of t (span node.sizes)).0 ≡ (step_of t (span node.sizes)).1) ×
    (node.colour_before ≡ (step_of t (span node.sizes)).2))
turn-is node t =
    let colours : ℕ = span node.sizes + 1 in
    let f : ℕ = t / (3 * colours) in
    let three : ℕ = t % (3 * colours) / colours in
    rw (sym (old-same t colours)) (pair-is (slice_index node.colours f) node.colour_before three (t % (3 * colours) % colours))
