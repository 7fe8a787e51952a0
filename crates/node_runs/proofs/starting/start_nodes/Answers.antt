use Rattle.std.proofs.Common.{◌≡◌, ◌-◌, ◌+◌, ◌++◌, length, map, sym, ap, ◌∙◌, arith}
use Rattle.std.specs.Prelude.{reverse}
use Rattle.std.specs.List.{range_with_len}
use Rattle.std.proofs.lemmas.List.{length-map, length_push}
use Rattle.interference.specs.Net.{count_of, vertices}
use Rattle.alpha_core.specs.Program.{start_node}
use Rattle.node_runs.specs.News.{AreNewOf}
use Rattle.node_runs.proofs.Growth.{all_more, all_none, last_says, rows_less}
use Rattle.node_runs.proofs.Descent.{one_down}
use Rattle.node_runs.proofs.starting.start_nodes.Goals as goal

pub loop-k-init : goal.loop-k-init
loop-k-init g c =
    let same = sym c.requires.net in
    let count : c.nodes-count.result ≡ count_of g.J.Wiring.net = c.nodes-count.ensures.count ∙ ap (λ n. count_of n) same in
    let left : c.nodes-count.result - 0 ≡ count_of g.J.Wiring.net = omega (arith, count) in
    record {
      left = omega (arith, c.requires.ends.shape.count, length-map c.args.ends.items (λ row. row.items), c.args.ends.ok.0, count);
      ends = λ u low le. c.requires.ends.each u (low, omega (arith, le, count));
      started = ap (λ l. map (λ b. b.value.vertex) l ++ reverse (range_with_len 1 (c.nodes-count.result - 0))) c.new-nodes.ensures.items
          ∙ ap (λ k. reverse (range_with_len 1 k)) left;
      first = all_none (λ b. b.value.alpha.node ≡ start_node g.P.NodeProgram.program c.args.net.now b.value.vertex) _ c.new-nodes.ensures.items;
    }

pub boxed_node-requires-clause-ends : goal.boxed_node-requires-clause-ends
boxed_node-requires-clause-ends g c κs within =
    let n = c.nodes-count.result - c.loop-k.k in
    let m = c.nodes-count.result - (c.loop-k.k + 1) in
    let next : n ≡ m + 1 = omega arith in
    let long : length c.loop-k.ends.items ≡ n = omega (arith, c.loop-k.ends.ok.0, c.loop-k.invariant.left) in
    last_says (λ row. row.items) (AreNewOf g.J.Wiring.net g.J.Wiring.tables g.J.Wiring.links) c.loop-k.ends.items c.last_row.new.rows.items
    c.last_row.result n m next long c.last_row.ensures.rows c.loop-k.invariant.ends

pub loop-k-preserved : goal.loop-k-preserved
loop-k-preserved g c =
    let inv = c.loop-k.invariant in
    let n = c.nodes-count.result - c.loop-k.k in
    let m = c.nodes-count.result - (c.loop-k.k + 1) in
    let next : n ≡ m + 1 = omega arith in
    let ends = c.last_row.new.rows in
    let off = c.last_row.ensures.rows in
    let long : length c.loop-k.ends.items ≡ n = omega (arith, c.loop-k.ends.ok.0, inv.left) in
    record {
      left = omega (arith, ap (λ l. length l) off, length_push ends.items c.last_row.result, long, next, ends.ok.0);
      ends = rows_less (λ row. row.items) (AreNewOf g.J.Wiring.net g.J.Wiring.tables g.J.Wiring.links) c.loop-k.ends.items ends.items c.last_row.result n m
          next long off inv.ends;
      started = one_down (λ b. b.value.vertex) c.loop-k.nodes.items c.push.new.self.items c.in_ok-node.node m n
          (reverse (vertices g.J.Wiring.net)) c.in_ok-push.ensures.items c.in_ok-node.ensures.vertex next inv.started;
      first = all_more (λ b. b.value.alpha.node ≡ start_node g.P.NodeProgram.program c.args.net.now b.value.vertex) c.loop-k.nodes.items _ c.in_ok-node.node
          c.in_ok-push.ensures.items inv.first
          (c.in_ok-node.ensures.first ∙ ap (λ v. start_node g.P.NodeProgram.program c.args.net.now v) (sym c.in_ok-node.ensures.vertex));
    }
