-- The first bare wire is what `first` of the list returned; a payload wire takes the first payload, which is there.
use Rattle.std.proofs.Common.{Some, drop, sym, ap, ◌∙◌}
use Rattle.std.specs.Prelude.{slice_get}
use Rattle.alpha_core.specs.declared.bare.BareWire.TheVariants.{Payload, Ack, Safe, Close}
use Rattle.alpha_core.proofs.FrontWires.{front-is, front-missing, front-none, front-payload}
use Rattle.alpha_core.proofs.out_lists.first_wire.Goals as goal

pub returns-in_err-pulse : goal.returns-in_err-pulse
returns-in_err-pulse g c = record {
  first = c.from_residual.ensures
      ∙ front-none c.args.wires.now.items c.args.payloads.now (c.in_err-pulse.ensures.value ∙ ap (λ l. slice_get l 0) c.deref.ensures.0);
}

pub returns-in_err-first-in-Payload : goal.returns-in_err-first-in-Payload
returns-in_err-first-in-Payload g c = record {
  first = absurd (front-missing c.args.wires.now.items c.args.payloads.now c.in-Payload.pulse
      (ap (λ b. Some b) (sym c.in-Payload.is) ∙ c.in_ok-pulse.ensures.value ∙ ap (λ l. slice_get l 0) c.deref.ensures.0)
      c.requires.payloads c.in_err-first-in-Payload.ensures.oldest);
}

pub returns-in_ok-first-in-Payload : goal.returns-in_ok-first-in-Payload
returns-in_ok-first-in-Payload g c =
    let wires = c.args.wires.now.items in
    let payloads = c.args.payloads.now in
    record {
      first = front-payload (drop 1 wires) payloads c.in-Payload.pulse c.in_ok-first-in-Payload.field-0 c.in_ok-first-in-Payload.ensures.oldest
          ∙ ap (λ l. slice_get l 0) (front-is wires payloads (Payload c.in-Payload.pulse)
          (ap (λ b. Some b) (sym c.in-Payload.is) ∙ c.in_ok-pulse.ensures.value ∙ ap (λ l. slice_get l 0) c.deref.ensures.0));
    }

pub returns-in-Ack : goal.returns-in-Ack
returns-in-Ack g c = record {
  first = ap (λ l. slice_get l 0) (front-is c.args.wires.now.items c.args.payloads.now (Ack c.in-Ack.pulse)
      (ap (λ b. Some b) (sym c.in-Ack.is) ∙ c.in_ok-pulse.ensures.value ∙ ap (λ l. slice_get l 0) c.deref.ensures.0));
}

pub returns-in-Safe : goal.returns-in-Safe
returns-in-Safe g c = record {
  first = ap (λ l. slice_get l 0) (front-is c.args.wires.now.items c.args.payloads.now (Safe c.in-Safe.pulse)
      (ap (λ b. Some b) (sym c.in-Safe.is) ∙ c.in_ok-pulse.ensures.value ∙ ap (λ l. slice_get l 0) c.deref.ensures.0));
}

pub returns-in-Close : goal.returns-in-Close
returns-in-Close g c = record {
  first = ap (λ l. slice_get l 0) (front-is c.args.wires.now.items c.args.payloads.now Close
      (ap (λ b. Some b) (sym c.in-Close.is) ∙ c.in_ok-pulse.ensures.value ∙ ap (λ l. slice_get l 0) c.deref.ensures.0));
}
