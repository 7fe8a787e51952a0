use Rattle.std.proofs.Common.{rules, ◌≤◌}
use Rattle.graph_limits.specs.declared.limits.TheConstants.{MAX_BARS}
use Rattle.interference.specs.declared.limits.TheConstants.{MAX_DEGREE}
use Rattle.interference.proofs.Neighbours.{greatest_bars-within, greatest_degree-within, forest_count-limited}
use Rattle.colour_rules.proofs.phase.Schedule.of.Goals as goal

pub overflow_cast-result : goal.overflow_cast-result
overflow_cast-result c =
    let few : c.greatest_degree.result ≤ MAX_DEGREE = rw c.greatest_degree.ensures.value (greatest_degree-within c.args.net.now c.nodes.ensures.network) in
    search rules

pub overflow_cast-result-2 : goal.overflow_cast-result-2
overflow_cast-result-2 c =
    let few : c.greatest_bars.result ≤ MAX_BARS = rw c.greatest_bars.ensures (greatest_bars-within c.args.net.now c.nodes.ensures.network) in
    search rules

pub overflow_cast-result-3 : goal.overflow_cast-result-3
overflow_cast-result-3 c =
    let few : c.forest_count.result ≤ MAX_DEGREE = rw c.forest_count.ensures.value (forest_count-limited c.args.net.now c.nodes.ensures.network) in
    search rules

pub invariant_of-result : goal.invariant_of-result
invariant_of-result c = record {
  degree_fits = rw c.greatest_degree.ensures.value (greatest_degree-within c.args.net.now c.nodes.ensures.network);
  bars_fit = rw c.greatest_bars.ensures (greatest_bars-within c.args.net.now c.nodes.ensures.network);
  forests_fit = rw c.forest_count.ensures.value (forest_count-limited c.args.net.now c.nodes.ensures.network);
}
