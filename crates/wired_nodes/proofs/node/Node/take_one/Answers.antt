-- The plan: each exit is an event of the node, and what it keeps after it is a lemma of `Keeping`.
use Rattle.std.proofs.Common.{◌+◌, length, refl, ap, ◌∙◌, sym, subst, arith, true≢false}
use Rattle.std.specs.Prelude.{IsTrue, max}
use Rattle.std.proofs.lemmas.Result.{IfOk-from_err}
use Rattle.wires.specs.StampedWires.{wires_of}
use Rattle.alpha_laws.proofs.PulseAfter.{reaction_pulse}
use Rattle.link_queue.specs.Ends.{taken_list, taken_stamped}
use Rattle.wired_nodes.proofs.Counting.{counts-still, counts-take}
use Rattle.wired_nodes.proofs.Keeping.{came, count_takes, kept-full, kept-none-came, kept-refused, kept-room, kept-took, last_came, takes_within}
use Rattle.wired_nodes.proofs.Lists.{below_as_many, same_all}
use Rattle.wired_nodes.proofs.Refusals.{past_above, full_counter}
use Rattle.wired_nodes.proofs.Stepping.{stepped-did, stepped-full, stepped-memory, stepped-not}
use Rattle.wired_nodes.proofs.node.Node.take_one.Goals as goal

first : {A B : Type 0} → A × B → A
first both = both.0

-- there is an end for each port
pub index_mut-end-requires : goal.index_mut-end-requires
index_mut-end-requires g c =
    let old = c.args.self.now in
    omega (arith, count_takes old.kept, c.requires.port, old.kept.ports, old.takes.ok.0)

pub invariant_of-self-in-None : goal.invariant_of-self-in-None
invariant_of-self-in-None g c = record {
  kept = kept-none-came (kept-room c.args.self.now.kept c.reserve.ensures.same) c.requires.going
      record { is = c.index_mut-end.ensures.value; place = c.in-None.ensures.place; same = c.in-None.ensures.unchanged };
  remembers = λ is. let full = full_counter c.args.self.now.counter c.args.self.now.aside c.args.self.now.remembers c.requires.going is in
      omega (arith, full);
}

pub invariant_of-self-in-Ok-on_wire : goal.invariant_of-self-in-Ok-on_wire
invariant_of-self-in-Ok-on_wire g c = record {
  kept = kept-took (kept-room c.args.self.now.kept c.reserve.ensures.same) c.requires.going c.requires.port
      (came c.in-Some.item c.index_mut-end.ensures.value c.in-Some.ensures.place c.in-Some.ensures.stamped
      c.stamp-stamp.ensures c.wire_of-wire.ensures.wire)
      c.in-Some.ensures.legal c.in-Ok-on_wire.ensures.reaction c.in-Ok-on_wire.ensures.state c.in-Ok-on_wire.ensures.last
      c.in-Ok.ensures.stamp c.advance.ensures.value c.write.ensures.written;
  remembers = λ is. let full = full_counter c.args.self.now.counter c.args.self.now.aside c.args.self.now.remembers c.requires.going is in
      omega (arith, full, c.in-Ok.ensures.stamp, c.advance.ensures.value);
}

pub invariant_of-self-in-Err : goal.invariant_of-self-in-Err
invariant_of-self-in-Err g c = record {
  kept = kept-refused (kept-room c.args.self.now.kept c.reserve.ensures.same) c.requires.going c.requires.port
      (came c.in-Some.item c.index_mut-end.ensures.value c.in-Some.ensures.place c.in-Some.ensures.stamped
      c.stamp-stamp.ensures c.wire_of-wire.ensures.wire)
      c.in-Err.ensures.reaction (ap (λ a. a.node) c.in-Err.ensures.refused) c.in-Err.ensures.last;
  remembers = λ is. let full = full_counter c.args.self.now.counter c.args.self.now.aside c.args.self.now.remembers c.requires.going is in
      omega (arith, full);
}

-- the stamp of the take would be too great
pub invariant_of-self-in_default : goal.invariant_of-self-in_default
invariant_of-self-in_default g c = record {
  kept = kept-full (kept-room c.args.self.now.kept c.reserve.ensures.same) c.requires.going c.requires.port
      (came c.in-Some.item c.index_mut-end.ensures.value c.in-Some.ensures.place c.in-Some.ensures.stamped
      c.stamp-stamp.ensures c.wire_of-wire.ensures.wire)
      c.in_default.ensures.full;
  remembers = λ is. let full = full_counter c.args.self.now.counter c.args.self.now.aside c.args.self.now.remembers c.requires.going is in
      omega (arith, full);
}

pub invariant_of-self : goal.invariant_of-self
invariant_of-self g c = record { kept = kept-room c.args.self.now.kept c.reserve.ensures.same; remembers = c.args.self.now.remembers }

pub on_wire-requires-clause-port : goal.on_wire-requires-clause-port
on_wire-requires-clause-port g c κs within =
    let old = c.args.self.now in
    below_as_many c.args.port (length old.alpha.node.view.ports) old.degree (old.kept.keeps.ports.count ∙ sym old.kept.ports) c.requires.port

pub on_wire-requires-clause-room : goal.on_wire-requires-clause-room
on_wire-requires-clause-room g c κs within = c.requires.room

pub advance-requires : goal.advance-requires
advance-requires g c = record { above = past_above c.in-Ok.next c.args.self.now.counter _ c.in-Ok.ensures.stamp }

pub write-requires : goal.write-requires
write-requires g c = record {
  on = c.reserve.ensures.same.on ∙ c.args.self.now.kept.recorded ∙ c.requires.transcript;
  room = c.in_ok-reserve.ensures.room;
}

-- the link was empty
pub returns-in-None : goal.returns-in-None
returns-in-None g c = record {
  stepped = stepped-not refl refl refl
      (counts-still refl refl refl (same_all (λ e. taken_stamped e.end) _ _ _ _ c.index_mut-end.ensures.value c.in-None.ensures.unchanged)) record {
        alpha = refl;
        aside = refl;
        puts = refl;
        takes = same_all (λ e. taken_list e.end) _ _ _ _ c.index_mut-end.ensures.value (ap (λ l. wires_of l) c.in-None.ensures.unchanged);
        entries = c.reserve.ensures.same.entries;
        counter = refl;
        room = λ has. c.in_ok-reserve.ensures.room;
      };
  counted = λ did. absurd (true≢false (sym did));
  room = λ did. c.in_ok-reserve.ensures.room;
}

-- memory was refused
pub returns-in_err-reserve : goal.returns-in_err-reserve
returns-in_err-reserve g c = record {
  stepped = stepped-memory c.from_residual.ensures.1 refl refl refl (counts-still refl refl refl refl)
      (subst IsTrue c.args.self.now.kept.recorded c.in_err-reserve.ensures.refused);
  counted = IfOk-from_err c.from_residual.result _ c.from_residual.ensures.0;
  room = IfOk-from_err c.from_residual.result _ c.from_residual.ensures.0;
}

-- the stamp would be too great
pub returns-in_default : goal.returns-in_default
returns-in_default g c =
    let old = c.args.self.now in
    record {
      stepped = stepped-full refl refl refl refl
          (first (counts-take (takes_within old.kept c.args.port c.requires.port)
          (came c.in-Some.item c.index_mut-end.ensures.value c.in-Some.ensures.place c.in-Some.ensures.stamped c.stamp-stamp.ensures
          c.wire_of-wire.ensures.wire) (omega arith) (omega arith) refl refl refl)) c.in_default.ensures.full;
      counted = tt;
      room = tt;
    }

-- a wire was taken
pub returns-in-Ok-on_wire : goal.returns-in-Ok-on_wire
returns-in-Ok-on_wire g c =
    let old = c.args.self.now in
    let came' = came c.in-Some.item c.index_mut-end.ensures.value c.in-Some.ensures.place c.in-Some.ensures.stamped c.stamp-stamp.ensures
    c.wire_of-wire.ensures.wire in
    let last = last_came old.kept c.requires.port came' in
    let moved = c.advance.ensures.value ∙ c.in-Ok.ensures.stamp in
    record {
      stepped = stepped-did refl refl refl
          (counts-take (takes_within old.kept c.args.port c.requires.port) came' (omega (arith, moved)) (omega (arith, moved))
          (reaction_pulse old.alpha.last old.alpha.node.view c.on_wire.new.self.node.view c.args.port c.wire_of-wire.result
          c.in-Ok-on_wire.ensures.reaction) refl refl);
      counted = λ did. record {
        past = λ going. moved ∙ ap (λ s. max old.counter s + 1) (sym last);
        stays = λ aside. absurd (aside c.requires.going);
      };
      room = λ did. absurd (true≢false did);
    }

-- a wire was set aside
pub returns-in-Err : goal.returns-in-Err
returns-in-Err g c =
    let old = c.args.self.now in
    record {
      stepped = stepped-did refl refl refl
          (counts-take (takes_within old.kept c.args.port c.requires.port)
          (came c.in-Some.item c.index_mut-end.ensures.value c.in-Some.ensures.place c.in-Some.ensures.stamped c.stamp-stamp.ensures
          c.wire_of-wire.ensures.wire) (omega arith) (omega arith) (ap (λ a. a.node.view.pulse) c.in-Err.ensures.refused) refl refl);
      counted = λ did. record { past = λ going. absurd cc; stays = λ aside. refl };
      room = λ did. absurd (true≢false did);
    }

-- the recorder is on as the run says
pub reserve-requires : goal.reserve-requires
reserve-requires g c = record { on = c.args.self.now.kept.recorded ∙ c.requires.transcript }
