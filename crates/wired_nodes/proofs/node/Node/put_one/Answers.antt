-- The plan: each exit is an event of the node, and what it keeps after it is a lemma of `Keeping`.
use Rattle.std.proofs.Common.{[], ◌∷◌, ◌++◌, ◌<◌, ◌^◌, length, inl, inr, refl, sym, ap, ◌∙◌, subst, arith, true≢false}
use Rattle.std.specs.Prelude.{IsTrue}
use Rattle.std.proofs.lemmas.Result.{IfOk-from_err}
use Rattle.wires.specs.StampedWires.{last_stamp, wires_of}
use Rattle.link_queue.specs.Ends.{put_list, put_stamped}
use Rattle.wired_nodes.proofs.Counting.{counts-put, counts-still}
use Rattle.wired_nodes.proofs.Keeping.{count_puts, count_takes, kept-none-put, kept-put, kept-room, last_went, port_below, puts_within}
use Rattle.wired_nodes.proofs.Lists.{same_all, get_map, at_place, below_as_many}
use Rattle.wired_nodes.proofs.Kept.{may_put, legal_by_name}
use Rattle.interference.specs.Net.{degree_of, neighbour_of}
use Rattle.link_rule.specs.Sent.{IsLegal}
use Rattle.wired_nodes.specs.HasStamps.{aside_stamp}
use Rattle.wired_nodes.proofs.Refusals.{first_there, next_above, past_greater, full_counter}
use Rattle.wired_nodes.proofs.Stepping.{stepped-did, stepped-full, stepped-memory, stepped-not}
use Rattle.wired_nodes.proofs.node.Node.put_one.Goals as goal

-- there is an end for each port
pub index_mut-requires : goal.index_mut-requires
index_mut-requires g c =
    let old = c.args.self.now in
    omega (arith, count_puts old.kept, c.requires.port, old.kept.ports, old.puts.ok.0)

-- and one by which the neighbour's wires come
pub index-neighbour-requires : goal.index-neighbour-requires
index-neighbour-requires g c =
    let old = c.args.self.now in
    omega (arith, count_takes old.kept, c.requires.port, old.kept.ports, old.takes.ok.0)

pub try_put-requires-clause-legal : goal.try_put-requires-clause-legal
try_put-requires-clause-legal g c κs within =
    let old = c.args.self.now in
    let net = g.J.Wiring.net in
    let v = c.args.self.now.vertex in
    let program = g.P.NodeProgram.program in
    let is = c.index_mut.ensures.value in
    let lt = port_below old.kept c.args.port c.requires.port in
    let inside = below_as_many c.args.port (length old.puts.items) (degree_of net v) (count_puts old.kept) lt in
    let place = at_place (λ e. (e.vertex, e.port)) (λ i. (v, i)) old.puts.items (degree_of net v) c.args.port _ old.kept.outs lt is in
    let legal = may_put program net v c.args.port _ _ _ c.in-Some.wire old.kept.keeps lt (sym c.in-Some.ensures.oldest) in
    let here = get_map (λ e. put_list e.end) old.puts.items c.args.port _ [] inside is in
    legal_by_name program net v c.args.port _ _ _ _ c.index_mut.result.now.place.named place
    (subst (λ l. IsLegal program net v (neighbour_of net v c.args.port) (l ++ (c.in-Some.wire ∷ []))) (sym here) legal)

-- the counter is above the stamps of all that was put
pub try_put-requires-clause-above : goal.try_put-requires-clause-above
try_put-requires-clause-above g c κs within =
    let old = c.args.self.now in
    let is = c.index_mut.ensures.value in
    let inside : c.args.port < length old.puts.items = omega (arith, c.requires.port, old.kept.ports, count_puts old.kept) in
    let here = ap (λ l. last_stamp l) (get_map (λ e. put_stamped e.end) old.puts.items c.args.port _ [] inside is) in
    let below = old.kept.stamps.below c.args.port in
    omega (arith, here, below, c.in_ok-stamp.ensures.stamp)

pub invariant_of-self-in-Err : goal.invariant_of-self-in-Err
invariant_of-self-in-Err g c = record {
  kept = kept-none-put (kept-room c.args.self.now.kept c.reserve.ensures.same) c.requires.going
      record { is = c.index_mut.ensures.value; place = c.in-Err.ensures.place; same = c.in-Err.ensures.unchanged };
  remembers = c.args.self.now.remembers;
}

pub invariant_of-self-in-Ok : goal.invariant_of-self-in-Ok
invariant_of-self-in-Ok g c = record {
  kept = kept-put (kept-room c.args.self.now.kept c.reserve.ensures.same) c.requires.going c.requires.port
      record { is = c.index_mut.ensures.value; place = c.in-Ok.ensures.place; more = c.in-Ok.ensures.stamped }
      c.index-neighbour.ensures (sym c.in-Some.ensures.oldest) c.put_done.ensures.view c.put_done.ensures.state
      c.put_done.ensures.last c.in_ok-stamp.ensures.stamp c.advance.ensures.value
      c.write.ensures.written;
  remembers = λ is. let full = full_counter c.args.self.now.counter c.args.self.now.aside c.args.self.now.remembers c.requires.going is in
      omega (arith, full, c.in_ok-stamp.ensures.stamp, c.advance.ensures.value);
}

-- the port is one of the node's
pub front-requires-clause-port : goal.front-requires-clause-port
front-requires-clause-port g c κs within =
    let old = c.args.self.now in
    below_as_many c.args.port _ old.degree (old.kept.keeps.ports.count ∙ sym old.kept.ports) c.requires.port

pub put_done-requires-clause-port : goal.put_done-requires-clause-port
put_done-requires-clause-port g c κs within =
    let old = c.args.self.now in
    below_as_many c.args.port _ old.degree (old.kept.keeps.ports.count ∙ sym old.kept.ports) c.requires.port

pub put_done-requires-clause-some : goal.put_done-requires-clause-some
put_done-requires-clause-some g c κs within = first_there _ c.in-Some.wire (sym c.in-Some.ensures.oldest)

-- room for an entry was made
pub invariant_of-self : goal.invariant_of-self
invariant_of-self g c = record { kept = kept-room c.args.self.now.kept c.reserve.ensures.same; remembers = c.args.self.now.remembers }

pub advance-requires : goal.advance-requires
advance-requires g c = record { above = next_above c.in_ok-stamp.stamp c.args.self.now.counter c.in_ok-stamp.ensures.stamp }

pub write-requires : goal.write-requires
write-requires g c = record {
  on = c.reserve.ensures.same.on ∙ c.args.self.now.kept.recorded ∙ c.requires.transcript;
  room = c.in_ok-reserve.ensures.room;
}

pub returns-in_default : goal.returns-in_default
returns-in_default g c = record {
  stepped = stepped-not refl refl refl (counts-still refl refl refl refl)
      record { alpha = refl; aside = refl; puts = refl; takes = refl; entries = refl; counter = refl; room = λ has. has };
  counted = λ did. absurd (true≢false (sym did));
  room = λ did. inl (sym c.in_default.ensures.oldest);
  going = c.requires.going;
}

-- the stamp would be too great
pub returns-in_err-stamp : goal.returns-in_err-stamp
returns-in_err-stamp g c =
    let old = c.args.self.now in
    record {
      stepped = stepped-full c.from_residual.ensures.1 refl refl refl (counts-still refl refl refl refl)
          (past_greater (2 ^ 64) old.counter (aside_stamp old.aside) c.in_err-stamp.ensures.full);
      counted = IfOk-from_err c.from_residual.result _ c.from_residual.ensures.0;
      room = IfOk-from_err c.from_residual.result _ c.from_residual.ensures.0;
      going = c.requires.going;
    }

-- memory was refused
pub returns-in_err-reserve : goal.returns-in_err-reserve
returns-in_err-reserve g c = record {
  stepped = stepped-memory c.from_residual-in_err-reserve.ensures.1 refl refl refl (counts-still refl refl refl refl)
      (subst IsTrue c.args.self.now.kept.recorded c.in_err-reserve.ensures.refused);
  counted = IfOk-from_err c.from_residual-in_err-reserve.result _ c.from_residual-in_err-reserve.ensures.0;
  room = IfOk-from_err c.from_residual-in_err-reserve.result _ c.from_residual-in_err-reserve.ensures.0;
  going = c.requires.going;
}

-- the attempt failed
pub returns-in-Err : goal.returns-in-Err
returns-in-Err g c = record {
  stepped = stepped-not refl refl refl
      (counts-still refl refl (same_all (λ e. put_stamped e.end) _ _ _ _ c.index_mut.ensures.value c.in-Err.ensures.unchanged) refl) record {
        alpha = refl;
        aside = refl;
        puts = same_all (λ e. put_list e.end) _ _ _ _ c.index_mut.ensures.value (ap (λ l. wires_of l) c.in-Err.ensures.unchanged);
        takes = refl;
        entries = c.reserve.ensures.same.entries;
        counter = refl;
        room = λ has. c.in_ok-reserve.ensures.room;
      };
  counted = λ did. absurd (true≢false (sym did));
  room = λ did. inr c.in_ok-reserve.ensures.room;
  going = c.requires.going;
}

-- a wire was put
pub returns-in-Ok : goal.returns-in-Ok
returns-in-Ok g c =
    let old = c.args.self.now in
    let moved = c.advance.ensures.value ∙ c.in_ok-stamp.ensures.stamp in
    record {
      stepped = stepped-did refl refl refl
          (counts-put (puts_within old.kept c.args.port c.requires.port)
          record { is = c.index_mut.ensures.value; place = c.in-Ok.ensures.place; more = c.in-Ok.ensures.stamped } moved
          (ap (λ u. u.pulse) c.put_done.ensures.view) refl refl);
      counted = λ did. record {
        one_more = moved;
        stamp = last_went old.kept c.requires.port record { is = c.index_mut.ensures.value; place = c.in-Ok.ensures.place; more = c.in-Ok.ensures.stamped }
            ∙ sym c.advance.ensures.value;
      };
      room = λ did. absurd (true≢false did);
      going = c.requires.going;
    }

-- the recorder is on as the run says
pub reserve-requires : goal.reserve-requires
reserve-requires g c = record { on = c.args.self.now.kept.recorded ∙ c.requires.transcript }
