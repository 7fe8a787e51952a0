use Rattle.std.proofs.Common.{rules, ◌+◌, ◌*◌, ◌^◌, ◌<◌, ◌≤◌, arith}
use Rattle.graph_limits.specs.declared.limits.TheConstants.{MAX_BARS}
use Rattle.interference.specs.declared.limits.TheConstants.{MAX_DEGREE}
use Rattle.interference.specs.Net.{greatest_degree_of, forest_count_of}
use Rattle.interference.proofs.Neighbours.{greatest_bars-within, greatest_degree-within, forest_count-within}
use Rattle.colour_program.proofs.Pulses.{pulses-few}
use Rattle.colour_program.proofs.colouring.ColouringNodeProgram.last_pulse.Goals as goal
use Rattle.colour_program.proofs.colouring.ColouringNodeProgram.last_pulse.Goals.{After-greatest_bars}

low : (c : After-greatest_bars) → c.greatest_degree.result ≤ MAX_DEGREE
low c = rw c.greatest_degree.ensures.value (greatest_degree-within c.args.net.now c.forest_count.ensures.network)

lower : (c : After-greatest_bars) → c.greatest_bars.result ≤ MAX_BARS
lower c = rw c.greatest_bars.ensures (greatest_bars-within c.args.net.now c.forest_count.ensures.network)

few : (c : After-greatest_bars) → c.forest_count.result ≤ MAX_DEGREE
few c =
    let most : forest_count_of c.args.net.now ≤ greatest_degree_of c.args.net.now = forest_count-within c.args.net.now c.forest_count.ensures.network in
    let least : greatest_degree_of c.args.net.now ≤ MAX_DEGREE = greatest_degree-within c.args.net.now c.forest_count.ensures.network in
    rw c.forest_count.ensures.value (omega arith)

fits : (c : After-greatest_bars) → c.forest_count.result * (3 * (c.greatest_degree.result + c.greatest_bars.result + 1)) < 2 ^ 31
fits c = pulses-few c.forest_count.result c.greatest_degree.result c.greatest_bars.result (few c) (low c) (lower c)

pub overflow_add-result : goal.overflow_add-result
overflow_add-result c =
    let g = (goal.at.overflow_add-result c).After-greatest_bars in
    let small : c.greatest_degree.result + c.greatest_bars.result < 2 ^ 16 = omega (arith, low g, lower g) in
    search rules

pub overflow_add-result-2 : goal.overflow_add-result-2
overflow_add-result-2 c =
    let g = (goal.at.overflow_add-result-2 c).After-greatest_bars in
    let small : c.greatest_degree.result + c.greatest_bars.result < 2 ^ 16 = omega (arith, low g, lower g) in
    search rules

pub overflow_mul-result : goal.overflow_mul-result
overflow_mul-result c =
    let g = (goal.at.overflow_mul-result c).After-greatest_bars in
    let small : c.greatest_degree.result + c.greatest_bars.result < 2 ^ 16 = omega (arith, low g, lower g) in
    search rules

pub overflow_mul-result-2 : goal.overflow_mul-result-2
overflow_mul-result-2 c =
    let small : c.forest_count.result * (3 * (c.greatest_degree.result + c.greatest_bars.result + 1)) < 2 ^ 31 =
    fits (goal.at.overflow_mul-result-2 c).After-greatest_bars in
    search rules

pub overflow_add-result-3 : goal.overflow_add-result-3
overflow_add-result-3 c =
    let small : c.forest_count.result * (3 * (c.greatest_degree.result + c.greatest_bars.result + 1)) < 2 ^ 31 =
    fits (goal.at.overflow_add-result-3 c).After-greatest_bars in
    search rules
