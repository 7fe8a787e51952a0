use Rattle.std.proofs.Common.{◌≤◌, rules}
use Rattle.graph_limits.specs.declared.limits.TheConstants.{MAX_BARS}
use Rattle.interference.specs.declared.limits.TheConstants.{MAX_DEGREE}
use Rattle.interference.specs.Net.{greatest_bars_of, greatest_degree_of}
use Rattle.interference.proofs.Neighbours.{greatest_bars-within, greatest_degree-within}
use Rattle.recolouring.proofs.node.span_of.Goals as goal

pub overflow_add-span : goal.overflow_add-span
overflow_add-span c =
    let low : greatest_degree_of c.args.net.now ≤ MAX_DEGREE = greatest_degree-within c.args.net.now c.greatest_degree.ensures.network in
    let few : greatest_bars_of c.args.net.now ≤ MAX_BARS = greatest_bars-within c.args.net.now c.greatest_degree.ensures.network in
    search rules

pub overflow_cast-result : goal.overflow_cast-result
overflow_cast-result c =
    let low : greatest_degree_of c.args.net.now ≤ MAX_DEGREE = greatest_degree-within c.args.net.now c.greatest_degree.ensures.network in
    let few : greatest_bars_of c.args.net.now ≤ MAX_BARS = greatest_bars-within c.args.net.now c.greatest_degree.ensures.network in
    search rules

pub returns-clause-room : goal.returns-clause-room
returns-clause-room c =
    let low : greatest_degree_of c.args.net.now ≤ MAX_DEGREE = greatest_degree-within c.args.net.now c.greatest_degree.ensures.network in
    let few : greatest_bars_of c.args.net.now ≤ MAX_BARS = greatest_bars-within c.args.net.now c.greatest_degree.ensures.network in
    search rules
