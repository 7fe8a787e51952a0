use Rattle.std.proofs.Common.{ℕ, ◌+◌, ◌-◌, ◌*◌, ◌≤◌, arith, mul-le-mul}
use Rattle.graph_limits.specs.declared.limits.TheConstants.{MAX_BARS}
use Rattle.interference.specs.declared.limits.TheConstants.{MAX_DEGREE}
use Rattle.interference.specs.Net.{forest_count_of, greatest_bars_of, greatest_degree_of}
use Rattle.interference.proofs.Neighbours.{greatest_bars-within, greatest_degree-within, forest_count-limited}
use Rattle.colour_rules.specs.declared.phase.TheConstants.{FIRST_MERGE}
use Rattle.colour_laws.specs.declared.laws.TheConstants.{MAX_LAST_PULSE}
use Rattle.colour_laws.proofs.laws.last_pulse_is_limited.Goals as goal

-- as many forests as neighbours, each with three steps for each colour
limited : (forests degree bars : ℕ) → forests ≤ MAX_DEGREE → degree ≤ MAX_DEGREE → bars ≤ MAX_BARS →
    FIRST_MERGE - 1 + forests * (3 * (degree + bars + 1)) ≤ MAX_LAST_PULSE
limited forests degree bars few low lower =
    let steps : 3 * (degree + bars + 1) ≤ 3 * (MAX_DEGREE + MAX_BARS + 1) = omega arith in
    let most : forests * (3 * (degree + bars + 1)) ≤ MAX_DEGREE * (3 * (MAX_DEGREE + MAX_BARS + 1)) = mul-le-mul few steps in
    omega arith

pub returns : goal.returns
returns c = λ net ok.
    limited (forest_count_of net) (greatest_degree_of net) (greatest_bars_of net) (forest_count-limited net ok) (greatest_degree-within net ok)
    (greatest_bars-within net ok)
