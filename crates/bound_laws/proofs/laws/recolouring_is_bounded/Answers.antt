use Rattle.std.proofs.Common.{◌≡◌, ◌≤◌, ◌+◌, ◌*◌, ℕ, ap, arith, sym, ◌∙◌}
use Rattle.std.proofs.Math.Nat.{add-mul, mul_assoc}
use Rattle.std.proofs.lemmas.Nat.{mul-le}
use Rattle.interference.specs.Net.{forest_count_of, greatest_bars_of, greatest_degree_of}
use Rattle.node_api.specs.Program.{sizes_of}
use Rattle.recolouring.specs.Knowing.{sweeps}
use Rattle.bound_laws.proofs.RecolouringSent.{recolouring-over}
use Rattle.bound_laws.proofs.laws.recolouring_is_bounded.Goals as goal

-- the pulses of the forests and those of the sweeps
counted : (forests degree width sweeps first : ℕ) → forests ≤ degree
    → first + forests * (3 * width) + sweeps * width ≤ first + (3 * degree + sweeps) * width
counted forests degree width sweeps first few =
    let most : forests * width ≤ degree * width = mul-le forests width degree width few (omega arith) in
    let swapped : forests * 3 ≡ 3 * forests = omega arith in
    let left : forests * (3 * width) ≡ 3 * (forests * width) =
    sym (mul_assoc forests 3 width) ∙ (ap (λ (n : ℕ). n * width) swapped ∙ mul_assoc 3 forests width) in
    let right : 3 * degree * width ≡ 3 * (degree * width) = mul_assoc 3 degree width in
    let split : (3 * degree + sweeps) * width ≡ 3 * degree * width + sweeps * width = add-mul (3 * degree) sweeps width in
    omega (arith, most, left, right, split)

pub returns-clause-pulses : goal.returns-clause-pulses
returns-clause-pulses c = λ net ok.
    counted (forest_count_of net) (greatest_degree_of net) (greatest_degree_of net + greatest_bars_of net + 1)
    ((net.again + 1) * sweeps (sizes_of net)) 12 (c.forest_count_is_the_greatest.ensures.within net ok)

pub returns-clause-payloads : goal.returns-clause-payloads
returns-clause-payloads c = λ net ok v w edge. recolouring-over net ok v w edge
