-- How many pulses there are.
use Rattle.std.proofs.Common.{ℕ, ◌+◌, ◌*◌, ◌^◌, ◌<◌, ◌≤◌, arith, mul-le-mul}
use Rattle.graph_limits.specs.declared.limits.TheConstants.{MAX_BARS}
use Rattle.interference.specs.declared.limits.TheConstants.{MAX_DEGREE}

-- the pulses of the merging are few enough to be counted in 31 bits
pub pulses-few : (forests degree bars : ℕ) → forests ≤ MAX_DEGREE → degree ≤ MAX_DEGREE → bars ≤ MAX_BARS → forests * (3 * (degree + bars + 1)) < 2 ^ 31
pulses-few forests degree bars few low lower =
    let steps : 3 * (degree + bars + 1) ≤ 3 * (MAX_DEGREE + MAX_BARS + 1) = omega arith in
    let most : forests * (3 * (degree + bars + 1)) ≤ MAX_DEGREE * (3 * (MAX_DEGREE + MAX_BARS + 1)) = mul-le-mul few steps in
    omega arith
