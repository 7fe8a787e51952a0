-- There is room for what is taken off each node; at the end all nodes were taken apart.
use Rattle.std.proofs.Common.{◌<◌, length, map, sym, ap, ◌∙◌, arith, rules, map-id}
use Rattle.std.proofs.lemmas.Iterator.Consumers.{YieldsList-end, YieldsList-turn}
use Rattle.std.proofs.lemmas.Iterator.Adapters.{YieldsList-from_vec}
use Rattle.entries.specs.Recorded.{entries_by}
use Rattle.pool.proofs.Views.{as_many}
use Rattle.port_rows.proofs.ReadLists.{both_pushed}
use Rattle.port_rows.specs.Rows.{rows_of}
use Rattle.outcomes.proofs.Meetings.{err_says}
use Rattle.outcomes.proofs.taking_apart.split_ends.Given.{Over}
use Rattle.outcomes.proofs.taking_apart.split_ends.Goals.{In-Some}
use Rattle.outcomes.proofs.taking_apart.split_ends.Goals as goal

left : (g : Over) (c : In-Some g) → length c.loop-node.yielded < length c.args.nodes.items
left g c =
    (YieldsList-turn (YieldsList-from_vec {s = c.into_iter-node-iterator.result} c.args.nodes.items (search rules) (search rules))
    c.loop-node.yielded c.loop-node.node-iterator c.loop-node.yielded_by c.next.result c.next.new.self c.in-Some.node c.in-Some.is
    c.next.ensures.steps).0

-- memory was refused
pub returns-in_err-all : goal.returns-in_err-all
returns-in_err-all g c = record {
  vertices = err_says _ c.from_residual.result c.from_residual.ensures.0;
  alphas = err_says _ c.from_residual.result c.from_residual.ensures.0;
  entries = err_says _ c.from_residual.result c.from_residual.ensures.0;
  puts = err_says _ c.from_residual.result c.from_residual.ensures.0;
  takes = err_says _ c.from_residual.result c.from_residual.ensures.0;
}

pub returns-in_err-left : goal.returns-in_err-left
returns-in_err-left g c = record {
  vertices = err_says _ c.from_residual-in_err-left.result c.from_residual-in_err-left.ensures.0;
  alphas = err_says _ c.from_residual-in_err-left.result c.from_residual-in_err-left.ensures.0;
  entries = err_says _ c.from_residual-in_err-left.result c.from_residual-in_err-left.ensures.0;
  puts = err_says _ c.from_residual-in_err-left.result c.from_residual-in_err-left.ensures.0;
  takes = err_says _ c.from_residual-in_err-left.result c.from_residual-in_err-left.ensures.0;
}

pub loop-node-init : goal.loop-node-init
loop-node-init g c =
    let none = c.in_ok-all.ensures in
    record {
      room = (omega (arith, none.actors.1, c.len.ensures), omega (arith, none.puts.1, c.len.ensures), omega (arith, none.takes.1, c.len.ensures));
      vertices = ap (map (λ a. a.left.value.vertex)) none.actors.0;
      alphas = ap (map (λ a. a.left.value.alpha)) none.actors.0;
      entries = ap (map (λ a. a.left.value.entries.items)) none.actors.0;
      puts = ap rows_of none.puts.0;
      takes = ap rows_of none.takes.0;
    }

pub push_reserved-requires : goal.push_reserved-requires
push_reserved-requires g c =
    let inv = c.loop-node.invariant in
    omega (
      arith,
      left g (goal.at.push_reserved-requires g c).In-Some,
      inv.room.0,
      c.args.nodes.ok.0,
      c.loop-node.all.actors.ok.0,
      as_many (λ b. b.value.vertex) (λ a. a.left.value.vertex) c.loop-node.yielded c.loop-node.all.actors.items inv.vertices,
    )

pub push_reserved-requires-in-loop-node : goal.push_reserved-requires-in-loop-node
push_reserved-requires-in-loop-node g c =
    let inv = c.loop-node.invariant in
    omega (
      arith,
      left g (goal.at.push_reserved-requires-in-loop-node g c).In-Some,
      inv.room.1,
      c.args.nodes.ok.0,
      c.loop-node.all.puts.ok.0,
      as_many (λ b. b.value.puts.items) (λ row. row.items) c.loop-node.yielded c.loop-node.all.puts.items inv.puts,
    )

pub push_reserved-requires-in-loop-node-2 : goal.push_reserved-requires-in-loop-node-2
push_reserved-requires-in-loop-node-2 g c =
    let inv = c.loop-node.invariant in
    omega (
      arith,
      left g (goal.at.push_reserved-requires-in-loop-node-2 g c).In-Some,
      inv.room.2,
      c.args.nodes.ok.0,
      c.loop-node.all.takes.ok.0,
      as_many (λ b. b.value.takes.items) (λ row. row.items) c.loop-node.yielded c.loop-node.all.takes.items inv.takes,
    )

pub loop-node-preserved : goal.loop-node-preserved
loop-node-preserved g c =
    let inv = c.loop-node.invariant in
    let yielded = c.loop-node.yielded in
    let node = c.in-Some.node in
    let actors = c.push_reserved.ensures in
    let puts = c.push_reserved-in-loop-node.ensures in
    let takes = c.push_reserved-in-loop-node-2.ensures in
    let out = c.into_inner.ensures in
    let parts = c.into_parts-vertex.ensures in
    let kept = c.in_ok-left.ensures.ok in
    record {
      room = (omega (arith, actors.capacity, inv.room.0), omega (arith, puts.capacity, inv.room.1), omega (arith, takes.capacity, inv.room.2));
      vertices = both_pushed (λ a. a.left.value.vertex) (λ b. b.value.vertex) _ _ yielded _ node actors.items
          (ap (λ l. l.vertex) kept ∙ parts.vertex ∙ ap (λ n. n.vertex) out) inv.vertices;
      alphas = both_pushed (λ a. a.left.value.alpha) (λ b. b.value.alpha) _ _ yielded _ node actors.items
          (ap (λ l. l.alpha) kept ∙ parts.alpha ∙ ap (λ n. n.alpha) out) inv.alphas;
      entries = both_pushed (λ a. a.left.value.entries.items) (λ b. entries_by b.value.recorder) _ _ yielded _ node actors.items
          (ap (λ l. l.entries.items) kept ∙ c.into_entries-entries.ensures.entries ∙ ap entries_by parts.recorder
          ∙ ap (λ n. entries_by n.recorder) out) inv.entries;
      puts = both_pushed (λ row. row.items) (λ b. b.value.puts.items) _ _ yielded _ node puts.items
          (ap (λ p. p.items) parts.puts ∙ ap (λ n. n.puts.items) out) inv.puts;
      takes = both_pushed (λ row. row.items) (λ b. b.value.takes.items) _ _ yielded _ node takes.items
          (ap (λ p. p.items) parts.takes ∙ ap (λ n. n.takes.items) out) inv.takes;
    }

pub returns : goal.returns
returns g c =
    let end = YieldsList-end (YieldsList-from_vec {s = c.into_iter-node-iterator.result} c.args.nodes.items (search rules) (search rules))
    c.loop-node.yielded c.loop-node.node-iterator c.loop-node.yielded_by c.next.result c.next.new.self c.in-None.is c.next.ensures.steps in
    let all = sym (map-id c.loop-node.yielded) ∙ end.0 in
    let inv = c.loop-node.invariant in
    record {
      vertices = inv.vertices ∙ ap (map (λ b. b.value.vertex)) all;
      alphas = inv.alphas ∙ ap (map (λ b. b.value.alpha)) all;
      entries = inv.entries ∙ ap (map (λ b. entries_by b.value.recorder)) all;
      puts = inv.puts ∙ ap (map (λ b. b.value.puts.items)) all;
      takes = inv.takes ∙ ap (map (λ b. b.value.takes.items)) all;
    }
