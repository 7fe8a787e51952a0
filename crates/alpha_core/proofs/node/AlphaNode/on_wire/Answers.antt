-- A safe that is due isn't refused (due-taken), and is taken as the definition takes it; what else comes is left to `on_other_wire`.
use Rattle.std.proofs.Common.{◌≡◌, refl, sym, ap, ◌∙◌, subst}
use Rattle.std.specs.Prelude.{Ok, Err, MatchResult}
use Rattle.wires.specs.declared.wire.Wire.TheVariants.{Safe}
use Rattle.alpha_core.specs.View.{port_at}
use Rattle.alpha_core.specs.Alpha.{reaction}
use Rattle.alpha_core.proofs.Due.{due-taken}
use Rattle.alpha_core.proofs.Reacting.{reaction-is}
use Rattle.alpha_core.proofs.node.AlphaNode.on_wire.Goals as goal
use Rattle.alpha_core.proofs.node.AlphaNode.on_wire.Goals.{in_default-via-in-Payload-1, in_default-via-in-Safe+else-is_safe_due}

pub is_safe_due-requires-clause-port : goal.is_safe_due-requires-clause-port
is_safe_due-requires-clause-port g c κs within = c.requires.port

pub take_safe-requires-clause-port : goal.take_safe-requires-clause-port
take_safe-requires-clause-port g c κs within = c.requires.port

pub take_safe-requires-clause-due : goal.take_safe-requires-clause-due
take_safe-requires-clause-due g c κs within = c.is_safe_due.ensures.due c.if-is_safe_due.true

pub returns-clause-reaction : goal.returns-clause-reaction
returns-clause-reaction g c =
    let last = c.args.self.now.last in
    let view = c.args.self.now.node.view in
    let q = c.in-Safe.q in
    ap (λ w. reaction last view c.args.port w) c.in-Safe.is
    ∙ reaction-is last view c.args.port (Safe q) (Safe q)
    (due-taken last view.pulse view.said (port_at view c.args.port) (Safe q) (c.is_safe_due.ensures.due c.if-is_safe_due.true)) refl
    ∙ ap (λ a. Ok a.node.view) (sym c.take_safe.ensures.rest)

pub returns-clause-state : goal.returns-clause-state
returns-clause-state g c = ap (λ a. a.node.state) c.take_safe.ensures.rest

pub returns-clause-last : goal.returns-clause-last
returns-clause-last g c = ap (λ a. a.last) c.take_safe.ensures.rest

pub on_other_wire-requires-clause-port : goal.on_other_wire-requires-clause-port
on_other_wire-requires-clause-port g c κs within = c.requires.port

pub on_other_wire-requires-clause-room : goal.on_other_wire-requires-clause-room
on_other_wire-requires-clause-room g c κs within = c.requires.room

pub returns-2-clause-reaction : goal.returns-2-clause-reaction
returns-2-clause-reaction g c =
    let last = c.args.self.now.last in
    let view = c.args.self.now.node.view in
    let same : c.in_default.wire ≡ c.args.wire = elim c.in_default.branch [
      | in_default-via-in-Payload-1 w ↦ w.wire-is
      | in_default-via-in-Safe+else-is_safe_due w ↦ w.wire-is ∙ sym w.in-Safe.is
    ] in
    subst (λ w. MatchResult c.on_other_wire.result
    (λ _. reaction last view c.args.port w ≡ Ok c.on_other_wire.new.self.node.view)
    (λ refused. reaction last view c.args.port w ≡ Err refused)) same c.on_other_wire.ensures.reaction

pub returns-2-clause-state : goal.returns-2-clause-state
returns-2-clause-state g c = c.on_other_wire.ensures.state

pub returns-2-clause-last : goal.returns-2-clause-last
returns-2-clause-last g c = c.on_other_wire.ensures.last

pub returns-2-clause-refused : goal.returns-2-clause-refused
returns-2-clause-refused g c = c.on_other_wire.ensures.refused
