use Rattle.std.proofs.Common.{◌≤◌, arith, map, min, sym, subst}
use Rattle.std.proofs.Math.Nat.{min-le_left}
use Rattle.std.specs.Prelude.{All}
use Rattle.link_queue.specs.Ends.{link_capacity}
use Rattle.port_rows.specs.Rows.{rows_of}
use Rattle.node_runs.specs.Makes.{AreMade}
use Rattle.node_runs.proofs.MadeRows.{made_are_new, made_within}
use Rattle.node_runs.proofs.run.start_and_run.Goals as goal

-- the ends of the links that were made are those of the run
pub start_nodes-requires-clause-ends : goal.start_nodes-requires-clause-ends
start_nodes-requires-clause-ends g c κs within =
    let capacity = min c.args.options.capacity 2 in
    let made = c.args.made in
    let are_made = subst (λ net. AreMade net capacity made.links.items (rows_of made.ends.items)) (sym c.requires.network) c.requires.made in
    made_are_new g.J.Wiring.net capacity _ _ are_made g.J.Wiring.tables g.J.Wiring.links (sym c.requires.tables) (sym c.requires.links)

-- the links are those that were made, which have no more room than was asked for
pub returns-clause-room : goal.returns-clause-room
returns-clause-room g c =
    let capacity = c.args.options.capacity in
    subst (λ list. All (λ link. link_capacity link ≤ capacity) list.items) (sym c.new-links.ensures.list)
    (λ k d lt. omega (arith, made_within c.args.net.now (min capacity 2) _ _ c.requires.made k d lt, min-le_left capacity 2))
