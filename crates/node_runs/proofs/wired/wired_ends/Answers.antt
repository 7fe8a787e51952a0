-- The plan: the ends that the loop has come to are those of its port, so they are new there.
use Rattle.std.proofs.Common.{◌≡◌, ◌<◌, ℕ, [], length, sym, ap, subst, ◌∙◌, arith, rules}
use Rattle.std.specs.Prelude.{get_or}
use Rattle.std.proofs.lemmas.List.{length_push}
use Rattle.std.proofs.lemmas.Iterator.Consumers.{YieldsList-turn}
use Rattle.std.proofs.lemmas.Iterator.Adapters.{YieldsList-from_vec}
use Rattle.interference.specs.Net.{back_port_of, neighbour_of}
use Rattle.link_queue.specs.Ends.{put_list, taken_list}
use Rattle.node_runs.specs.News.{AreNewAt}
use Rattle.node_runs.proofs.Growth.{all_more, both, handed, place_more}
use Rattle.node_runs.proofs.MadeRows.{same_place}
use Rattle.node_runs.proofs.wired.wired_ends.Given.{Over}
use Rattle.node_runs.proofs.wired.wired_ends.Goals.{In-Some, After-back_port-j}
use Rattle.node_runs.proofs.wired.wired_ends.Goals as goal

-- the ends of a turn are those of the row at its index
turn : (g : Over) (c : In-Some g)
    → (length c.loop-ends.yielded < length c.args.row.items) × (c.in-Some.ends ≡ get_or c.args.row.items (length c.loop-ends.yielded) c.in-Some.ends)
turn g c =
    YieldsList-turn (YieldsList-from_vec {s = c.into_iter-ends-iterator.result} c.args.row.items (search rules) (search rules))
    c.loop-ends.yielded c.loop-ends.ends-iterator c.loop-ends.yielded_by c.next.result c.next.new.self c.in-Some.ends c.in-Some.is c.next.ensures.steps

-- which is its port, where they are new
new_ends : (g : Over) (c : In-Some g) → AreNewAt g.J.Wiring.net g.J.Wiring.tables g.J.Wiring.links c.args.v c.loop-ends.port c.in-Some.ends
new_ends g c =
    c.requires.ends.each c.loop-ends.port c.in-Some.ends
    (handed c.args.row.items c.loop-ends.port (length c.loop-ends.yielded) c.in-Some.ends c.loop-ends.invariant.port (turn g c))

-- the neighbour at the port, and its port, in the network of the run
across : (g : Over) (c : After-back_port-j g) → (c.neighbour-w.result ≡ neighbour_of g.J.Wiring.net c.args.v c.loop-ends.port)
    × (c.back_port-j.result ≡ back_port_of g.J.Wiring.net c.args.v c.loop-ends.port)
across g c =
    subst (λ n. (c.neighbour-w.result ≡ neighbour_of n c.args.v c.loop-ends.port) × (c.back_port-j.result ≡ back_port_of n c.args.v c.loop-ends.port))
    (sym c.requires.network) (c.neighbour-w.ensures.value, c.back_port-j.ensures.value)

pub new-requires : goal.new-requires
new-requires g c = let new = new_ends g (goal.at.new-requires g c).In-Some in record { place = new.put_place; link = new.put_link }

pub new-requires-in-loop-ends : goal.new-requires-in-loop-ends
new-requires-in-loop-ends g c =
    let new = new_ends g (goal.at.new-requires-in-loop-ends g c).In-Some in
    let far = across g (goal.at.new-requires-in-loop-ends g c).After-back_port-j in
    record { place = same_place g.J.Wiring.net g.J.Wiring.tables _ _ _ _ _ _ far.0 far.1 new.take_place; link = new.take_link }

pub push_reserved-requires : goal.push_reserved-requires
push_reserved-requires g c =
    let left = (turn g (goal.at.push_reserved-requires g c).In-Some).0 in
    let inv = c.loop-ends.invariant in
    omega (arith, left, inv.port, inv.many.0, inv.room.0, c.args.row.ok.0)

pub push_reserved-requires-in-loop-ends : goal.push_reserved-requires-in-loop-ends
push_reserved-requires-in-loop-ends g c =
    let left = (turn g (goal.at.push_reserved-requires-in-loop-ends g c).In-Some).0 in
    let inv = c.loop-ends.invariant in
    omega (arith, left, inv.port, inv.many.1, inv.room.1, c.args.row.ok.0)

pub loop-ends-preserved : goal.loop-ends-preserved
loop-ends-preserved g c =
    let net = g.J.Wiring.net in
    let new = new_ends g (goal.at.loop-ends-preserved g c).In-Some in
    let far = across g (goal.at.loop-ends-preserved g c).After-back_port-j in
    let inv = c.loop-ends.invariant in
    let puts = c.push_reserved.ensures in
    let takes = c.push_reserved-in-loop-ends.ensures in
    record {
      port = omega (arith, length_push c.loop-ends.yielded c.in-Some.ends, inv.port);
      many = (omega (arith, puts.len, inv.many.0), omega (arith, takes.len, inv.many.1));
      room = (omega (arith, puts.capacity, inv.room.0), omega (arith, takes.capacity, inv.room.1));
      outs = place_more {D = ℕ × ℕ} (λ e. (e.vertex, e.port)) (λ i. (c.args.v, i)) c.loop-ends.puts.items c.push_reserved.new.self.items c.new.result
          c.loop-ends.port puts.items (both _ _ _ _ c.new.ensures.place.0 c.new.ensures.place.1) inv.outs;
      ins = place_more {D = ℕ × ℕ} (λ e. (e.vertex, e.port)) (λ i. (neighbour_of net c.args.v i, back_port_of net c.args.v i)) c.loop-ends.takes.items
          c.push_reserved-in-loop-ends.new.self.items c.new-in-loop-ends.result c.loop-ends.port takes.items
          (both _ _ _ _ (c.new-in-loop-ends.ensures.place.0 ∙ far.0) (c.new-in-loop-ends.ensures.place.1 ∙ far.1)) inv.ins;
      nothing_put = all_more (λ e. put_list e.end ≡ []) c.loop-ends.puts.items c.push_reserved.new.self.items c.new.result puts.items inv.nothing_put
          (ap (λ e. put_list e) c.new.ensures.end ∙ new.put);
      nothing_taken = all_more (λ e. taken_list e.end ≡ []) c.loop-ends.takes.items c.push_reserved-in-loop-ends.new.self.items c.new-in-loop-ends.result
          takes.items inv.nothing_taken (ap (λ e. taken_list e) c.new-in-loop-ends.ensures.end ∙ new.taken);
    }
