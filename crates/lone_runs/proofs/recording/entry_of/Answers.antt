use Rattle.std.proofs.Common.{◌≡◌, ◌∙◌, ap, subst, sym, true}
use Rattle.interference.specs.Net.{IsNetwork, neighbour_of, port_to}
use Rattle.interference.proofs.Neighbours.{port_to-is}
use Rattle.event_rule.specs.declared.event.Event.TheVariants.{Put, Take}
use Rattle.event_rule.proofs.NetKept.{port_from}
use Rattle.event_rule.specs.Rows.{has_place}
use Rattle.lone_runs.proofs.recording.entry_of.Goals as goal

-- the port that leads to the neighbour at a port is this one
pub returns-in_ok-front-in-Put-clause-event : goal.returns-in_ok-front-in-Put-clause-event
returns-in_ok-front-in-Put-clause-event g c =
    let net = c.args.state.now.net in
    let v = c.in-Put.v in
    let port = c.in-Put.port in
    let known = c.network-net.ensures.network in
    let value = c.neighbour.ensures.value ∙ ap (λ n. neighbour_of n v port) known in
    let at = port_from net v port (subst (λ e. has_place net e ≡ true) c.in-Put.is c.requires.place) in
    ap (λ w. Put v (port_to net v w)) value
    ∙ ap (λ i. Put v i) (port_to-is net (subst IsNetwork known c.neighbour.ensures.network) v port at.0 at.1) ∙ sym c.in-Put.is

pub returns-in_ok-next_wire-in-Take-clause-event : goal.returns-in_ok-next_wire-in-Take-clause-event
returns-in_ok-next_wire-in-Take-clause-event g c =
    let net = c.args.state.now.net in
    let v = c.in-Take.v in
    let port = c.in-Take.port in
    let known = c.network-net.ensures.network in
    let value = c.neighbour-in-Take.ensures.value ∙ ap (λ n. neighbour_of n v port) known in
    let at = port_from net v port (subst (λ e. has_place net e ≡ true) c.in-Take.is c.requires.place) in
    ap (λ w. Take v (port_to net v w)) value
    ∙ ap (λ i. Take v i) (port_to-is net (subst IsNetwork known c.neighbour-in-Take.ensures.network) v port at.0 at.1) ∙ sym c.in-Take.is
