use Rattle.std.proofs.Common.{◌++◌, ◌∙◌, ap, append-nil, sym}
use Rattle.dimacs_col.proofs.Refused.{err_says}
use Rattle.wires.specs.declared.wire.Wire.{Wire}
use Rattle.program_texts.specs.PayloadTexts.{payload_texts}
use Rattle.program_texts.specs.WireText.{wire_text}
use Rattle.event_texts.proofs.Written.{rows_more}
use Rattle.event_texts.proofs.state_text.push_wires.Goals as goal

pub loop-wire-init : goal.loop-wire-init
loop-wire-init g c = sym (append-nil c.args.text.now.items)

pub returns-in_err-push_wire : goal.returns-in_err-push_wire
returns-in_err-push_wire g c = err_says _ _ c.from_residual.result c.from_residual.ensures.1

pub loop-wire-preserved : goal.loop-wire-preserved
loop-wire-preserved g c =
    let payloads = payload_texts g.T.PayloadText in
    rows_more (wire_text payloads) c.args.wires.now c.loop-wire.wire-index c.wire-item.result c.loop-wire-test.true
    c.args.text.now.items c.loop-wire.text.items c.push_wire.new.text.items c.loop-wire.invariant
    (c.in_ok-push_wire.ensures.text ∙ ap (λ (wire : Wire _). c.loop-wire.text.items ++ wire_text payloads wire) c.wire-item.is)
