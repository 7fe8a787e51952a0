-- A test of the pulse, or of the wire that the event moves, is a test of the row.
use Rattle.net_core.proofs.Writes.{pulse-tells, put-tells, take-tells}
use Rattle.net_core.proofs.entry_event.writes.Goals as goal

pub returns-in-Put : goal.returns-in-Put
returns-in-Put g c =
    let state = c.args.state.now in
    put-tells g.P.NodeProgram.program state.net state.state c.args.row.now c.args.event c.requires.event c.in-Put.field-0 c.in-Put.wire
    c.next_wire.result c.requires.place c.next_wire.ensures c.in-Put.is c.carries.result c.carries.ensures

pub returns-in-Take : goal.returns-in-Take
returns-in-Take g c =
    let state = c.args.state.now in
    take-tells g.P.NodeProgram.program state.net state.state c.args.row.now c.args.event c.requires.event c.in-Take.field-0 c.in-Take.wire
    c.next_wire-in-Take.result c.requires.place c.next_wire-in-Take.ensures c.in-Take.is c.carries-in-Take.result c.carries-in-Take.ensures

pub returns-in-Pulse : goal.returns-in-Pulse
returns-in-Pulse g c =
    let state = c.args.state.now in
    pulse-tells g.P.NodeProgram.program state.net state.state c.args.row.now c.args.event c.requires.event c.pulse_of.result c.in-Pulse.pulse
    c.in-Pulse.is c.pulse_of.ensures.pulse c.follows.result c.follows.ensures
