-- Which phases there are, and how high the colours of their work can be.
use Rattle.std.proofs.Common.{◌≡◌, ℕ, ◌+◌, ◌-◌, ◌*◌, ◌/◌, ◌%◌, ◌<◌, ◌≤◌, ◌==◌, Bool, true, false, refl, ap, arith}
use Rattle.std.specs.Prelude.{if◌then◌else◌, nat_le, nat_lt}
use Rattle.std.proofs.lemmas.Bool.Decides.{nat_tests}
use Rattle.std.proofs.lemmas.Nat.{div-add-mod', div_below, mod_below}
use Rattle.node_api.specs.Program.{Sizes}
use Rattle.colour_rules.specs.declared.phase.TheConstants.{FIRST_MERGE}
use Rattle.colour_rules.specs.declared.phase.Reduction.{Reduction}
use Rattle.colour_rules.specs.declared.phase.Reduction.TheVariants.{Step, Shift, Drop}
use Rattle.colour_rules.specs.declared.phase.Phase.{Phase}
use Rattle.colour_rules.specs.declared.phase.Phase.TheVariants.{Greet, Orient, Seed, Work, Merge, Halted}
use Rattle.colour_rules.specs.Node.{IsPhase, IsReduction, last, phase_of, reduction_of, steps}
use Rattle.colour_rules.specs.Table.{is_above}

reduction-if : (b6 b7 b8 b9 b10 b11 : Bool) (k : ℕ) → (b6 ≡ true → k ≤ 3) →
    IsReduction (if b6 then Step k else if b7 then Shift 5 else if b8 then Drop 5 else if b9 then Shift 4 else if b10 then Drop 4 else if b11 then Shift 3
    else Drop 3)
reduction-if true b7 b8 b9 b10 b11 k low = low refl
reduction-if false true b8 b9 b10 b11 k low = (omega arith, omega arith)
reduction-if false false true b9 b10 b11 k low = (omega arith, omega arith)
reduction-if false false false true b10 b11 k low = (omega arith, omega arith)
reduction-if false false false false true b11 k low = (omega arith, omega arith)
reduction-if false false false false false true k low = (omega arith, omega arith)
reduction-if false false false false false false k low = (omega arith, omega arith)

reduction-real : (p : ℕ) → IsReduction (reduction_of p)
reduction-real p =
    reduction-if (nat_le p 6) (p == 7) (p == 8) (p == 9) (p == 10) (p == 11) (p - 3)
    (λ early. let within : p ≤ 6 = grind (arith, nat_tests) in omega arith)

-- the phase that the tests of a pulse choose
abbrev phase-by : Bool → Bool → Bool → Bool → Bool → Reduction → ℕ → ℕ → Phase
phase-by b0 b1 b2 b3 b4 reduction f s = if b0 then Greet else if b1 then Orient else if b2 then Seed else if b3 then Work reduction else if b4 then Merge f s
    else Halted

real-if : (sizes : Sizes) (b0 b1 b2 b3 b4 : Bool) (reduction : Reduction) (f s : ℕ) → IsReduction reduction →
    (b3 ≡ false → b4 ≡ true → IsPhase sizes (Merge f s)) → IsPhase sizes (phase-by b0 b1 b2 b3 b4 reduction f s)
real-if sizes true b1 b2 b3 b4 reduction f s work merge = tt
real-if sizes false true b2 b3 b4 reduction f s work merge = tt
real-if sizes false false true b3 b4 reduction f s work merge = tt
real-if sizes false false false true b4 reduction f s work merge = work
real-if sizes false false false false true reduction f s work merge = merge refl refl
real-if sizes false false false false false reduction f s work merge = tt

-- every pulse has a phase that there is
pub phase-real : (sizes : Sizes) (p : ℕ) → IsPhase sizes (phase_of sizes p)
phase-real sizes p =
    let w : ℕ = steps sizes in
    let t : ℕ = p - FIRST_MERGE in
    real-if sizes (p == 0) (p == 1) (p == 2) (nat_lt p FIRST_MERGE) (nat_le p (last sizes)) (reduction_of p) (t / w) (t % w)
    (reduction-real p)
    (λ work more.
    let some : 0 < w = omega arith in
    let late : FIRST_MERGE ≤ p = grind (arith, nat_tests) in
    let early : p ≤ last sizes = grind (arith, nat_tests) in
    (div_below t w sizes.forests some (omega arith), mod_below t w some))

-- the forest and the step of a phase of merging
abbrev forest_in : Phase → ℕ
forest_in (Merge f s) = f
forest_in phase = 0

abbrev step_in : Phase → ℕ
step_in (Merge f s) = s
step_in phase = 0

-- which tests of a pulse choose a phase of merging
by_tests : (b0 b1 b2 b3 b4 : Bool) (reduction : Reduction) (f s g t : ℕ) → Merge f s ≡ phase-by b0 b1 b2 b3 b4 reduction g t → (b3 ≡ false) × (f ≡ g) × (s ≡ t)
by_tests true b1 b2 b3 b4 reduction f s g t h = absurd (cc)
by_tests false true b2 b3 b4 reduction f s g t h = absurd (cc)
by_tests false false true b3 b4 reduction f s g t h = absurd (cc)
by_tests false false false true b4 reduction f s g t h = absurd (cc)
by_tests false false false false true reduction f s g t h = (refl, ap forest_in h, ap step_in h)
by_tests false false false false false reduction f s g t h = absurd (cc)

-- the pulse of a step of the merging
pub merge-pulse : (sizes : Sizes) (p f s : ℕ) → Merge f s ≡ phase_of sizes p → p ≡ FIRST_MERGE + (f * steps sizes + s)
merge-pulse sizes p f s h =
    let w : ℕ = steps sizes in
    let t : ℕ = p - FIRST_MERGE in
    let tests = by_tests (p == 0) (p == 1) (p == 2) (nat_lt p FIRST_MERGE) (nat_le p (last sizes)) (reduction_of p) f s (t / w) (t % w) h in
    let late : FIRST_MERGE ≤ p = (let e : nat_lt p FIRST_MERGE ≡ false = tests.0 in grind (arith, nat_tests)) in
    let whole : f * w + s ≡ t = rw (tests.1, tests.2) (div-add-mod' t w) in
    omega arith

-- a shift and a drop pass no colour above 5
pub low-colour : (reduction : Reduction) (c : ℕ) → IsReduction reduction → ((k : ℕ) → reduction ≡ Step k → ⊥) → is_above reduction c ≡ false → c < 6
low-colour (Step k) c real other low = absurd (other k refl)
low-colour (Shift x) c real other low = let within : c ≤ x = grind (arith, nat_tests) in omega (arith, real.1)
low-colour (Drop x) c real other low = let within : c ≤ x = grind (arith, nat_tests) in omega (arith, real.1)
