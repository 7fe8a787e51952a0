-- Nothing was put by the end that was asked, so the node is as it was.
use Rattle.std.proofs.Common.{[], length, refl, sym, ap, inr, arith, ◌∙◌}
use Rattle.wires.specs.StampedWires.{wires_of}
use Rattle.link_queue.specs.Ends.{put_list, put_stamped}
use Rattle.wired_nodes.proofs.Counting.{counts-still}
use Rattle.wired_nodes.proofs.Keeping.{count_puts, kept-none-put, port_below}
use Rattle.wired_nodes.proofs.Lists.{same_all, get_map, at_place, below_as_many}
use Rattle.wired_nodes.proofs.Stepping.{full-there, stepped-not}
use Rattle.interference.specs.Net.{degree_of}
use Rattle.wired_nodes.proofs.node.Node.is_blocked.Goals as goal

-- there is an end for each port
pub index_mut-requires : goal.index_mut-requires
index_mut-requires g c =
    let old = c.args.self.now in
    omega (arith, count_puts old.kept, c.requires.port, old.kept.ports, old.puts.ok.0)

-- the port is one of the node's
pub front-requires-clause-port : goal.front-requires-clause-port
front-requires-clause-port g c κs within =
    let old = c.args.self.now in
    below_as_many c.args.port _ old.degree (old.kept.keeps.ports.count ∙ sym old.kept.ports) c.requires.port

pub invariant_of-self : goal.invariant_of-self
invariant_of-self g c = record {
  kept = kept-none-put c.args.self.now.kept c.requires.going
      record { is = c.index_mut.ensures.value; place = c.was_full.ensures.place; same = c.was_full.ensures.unchanged };
  remembers = c.args.self.now.remembers;
}

pub returns : goal.returns
returns g c =
    let old = c.args.self.now in
    let is = c.index_mut.ensures.value in
    let lt = port_below old.kept c.args.port c.requires.port in
    let inside = below_as_many c.args.port (length old.puts.items) (degree_of g.J.Wiring.net old.vertex) (count_puts old.kept) lt in
    let place = at_place (λ e. (e.vertex, e.port)) (λ i. (old.vertex, i)) old.puts.items (degree_of g.J.Wiring.net old.vertex) c.args.port _ old.kept.outs
    lt is in
    let here = get_map (λ e. put_list e.end) old.puts.items c.args.port _ [] inside is in
    record {
      stepped = stepped-not refl refl refl
          (counts-still refl refl (same_all (λ e. put_stamped e.end) _ _ _ _ is c.was_full.ensures.unchanged) refl) record {
            alpha = refl;
            aside = refl;
            puts = same_all (λ e. put_list e.end) _ _ _ _ is (ap (λ l. wires_of l) c.was_full.ensures.unchanged);
            takes = refl;
            entries = refl;
            counter = refl;
            room = λ has. has;
          };
      blocked = λ full. inr (full-there g.J.Wiring.tables old.vertex c.args.port place here (c.was_full.ensures.full full));
      going = c.requires.going;
    }
