-- The plan: each exit is an event of the node, and what it keeps after it is a lemma of `Keeping`.
use Rattle.std.proofs.Common.{◌^◌, ◌∙◌, refl, subst, sym, arith, true≢false}
use Rattle.std.specs.Prelude.{IsTrue}
use Rattle.std.proofs.lemmas.Result.{IfOk-from_err}
use Rattle.alpha_laws.proofs.PulseAfter.{pulsed_pulse}
use Rattle.wired_nodes.proofs.Counting.{counts-pulse, counts-still}
use Rattle.wired_nodes.proofs.Keeping.{kept-pulsed, kept-room}
use Rattle.wired_nodes.proofs.Steps.{never_refused}
use Rattle.wired_nodes.specs.HasStamps.{aside_stamp}
use Rattle.wired_nodes.proofs.Refusals.{next_above, past_greater, full_counter}
use Rattle.wired_nodes.proofs.Stepping.{stepped-did, stepped-full, stepped-memory, stepped-not}
use Rattle.wired_nodes.proofs.node.Node.pulse.Goals as goal

pub unreachable-requires : goal.unreachable-requires
unreachable-requires g c =
    let kept = c.args.self.now.kept in
    let why = c.in-Err.ensures.pulse in
    let can = sym c.can_pulse.ensures.can ∙ c.if-not-can_pulse.false in
    never_refused g.P.NodeProgram.program g.J.Wiring.net g.P.NodeProgram.laws kept.network _ _ _ _ _ why.0 kept.last_is kept.is_vertex can why.2 kept.keeps

-- room for an entry was made
pub invariant_of-self : goal.invariant_of-self
invariant_of-self g c = record { kept = kept-room c.args.self.now.kept c.reserve.ensures.same; remembers = c.args.self.now.remembers }

pub invariant_of-self-in-Ok : goal.invariant_of-self-in-Ok
invariant_of-self-in-Ok g c = record {
  kept = kept-pulsed (kept-room c.args.self.now.kept c.reserve.ensures.same) g.P.NodeProgram.laws c.requires.going
      (sym c.can_pulse.ensures.can ∙ c.if-not-can_pulse.false)
      c.in-Ok.ensures.pulse c.pulse_number-number.ensures.pulse c.in-Ok.ensures.last
      c.in_ok-stamp.ensures.stamp c.advance.ensures.value c.write.ensures.written;
  remembers = λ is. let full = full_counter c.args.self.now.counter c.args.self.now.aside c.args.self.now.remembers c.requires.going is in
      omega (arith, full, c.in_ok-stamp.ensures.stamp, c.advance.ensures.value);
}

pub advance-requires : goal.advance-requires
advance-requires g c = record { above = next_above c.in_ok-stamp.stamp c.args.self.now.counter c.in_ok-stamp.ensures.stamp }

pub write-requires : goal.write-requires
write-requires g c = record {
  on = c.reserve.ensures.same.on ∙ c.args.self.now.kept.recorded ∙ c.requires.transcript;
  room = c.in_ok-reserve.ensures.room;
}

-- the stamp would be too great
pub returns-in_err-stamp : goal.returns-in_err-stamp
returns-in_err-stamp g c =
    let old = c.args.self.now in
    record {
      stepped = stepped-full c.from_residual.ensures.1 refl refl refl (counts-still refl refl refl refl)
          (past_greater (2 ^ 64) old.counter (aside_stamp old.aside) c.in_err-stamp.ensures.full);
      counted = IfOk-from_err c.from_residual.result _ c.from_residual.ensures.0;
      blocked = IfOk-from_err c.from_residual.result _ c.from_residual.ensures.0;
      going = c.requires.going;
    }

-- memory was refused
pub returns-in_err-reserve : goal.returns-in_err-reserve
returns-in_err-reserve g c = record {
  stepped = stepped-memory c.from_residual-in_err-reserve.ensures.1 refl refl refl (counts-still refl refl refl refl)
      (subst IsTrue c.args.self.now.kept.recorded c.in_err-reserve.ensures.refused);
  counted = IfOk-from_err c.from_residual-in_err-reserve.result _ c.from_residual-in_err-reserve.ensures.0;
  blocked = IfOk-from_err c.from_residual-in_err-reserve.result _ c.from_residual-in_err-reserve.ensures.0;
  going = c.requires.going;
}

pub returns-then-not-can_pulse : goal.returns-then-not-can_pulse
returns-then-not-can_pulse g c = record {
  stepped = stepped-not refl refl refl (counts-still refl refl refl refl)
      record { alpha = refl; aside = refl; puts = refl; takes = refl; entries = refl; counter = refl; room = λ has. has };
  counted = λ did. absurd (true≢false (sym did));
  blocked = λ did. sym c.can_pulse.ensures.can ∙ c.if-not-can_pulse.true;
  going = c.requires.going;
}

pub returns : goal.returns
returns g c =
    let old = c.args.self.now in
    record {
      stepped = stepped-did refl refl refl
          (counts-pulse (c.advance.ensures.value ∙ c.in_ok-stamp.ensures.stamp) (pulsed_pulse old.alpha.last old.alpha.node
          c.pulse.new.self.node _ c.in-Ok.ensures.pulse) refl refl);
      counted = λ did. c.advance.ensures.value ∙ c.in_ok-stamp.ensures.stamp;
      blocked = λ did. absurd (true≢false did);
      going = c.requires.going;
    }

-- the recorder is on as the run says
pub reserve-requires : goal.reserve-requires
reserve-requires g c = record { on = c.args.self.now.kept.recorded ∙ c.requires.transcript }
