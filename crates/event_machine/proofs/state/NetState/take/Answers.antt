-- The plan: the port is one of the network's (there-is), so the link that leads to it is there (link-there), and it is the
-- one that the definition names (link-is). Its oldest wire (oldest) is taken as the definition takes it (taken-in); no node
-- refuses it (take_refused).
use Rattle.std.proofs.Common.{◌≡◌, ◌<◌, ◌-◌, ◌∷◌, List, Ok, set, sym, ap, ◌∙◌, subst}
use Rattle.std.specs.Prelude.{slice_get}
use Rattle.interference.specs.Net.{IsVertex, degree_of, neighbour_of}
use Rattle.event_rule.specs.declared.event.Event.TheVariants.{Take}
use Rattle.event_rule.specs.State.{HasLink, NetView, link_at, link_to, set_link, state_in, take_one}
use Rattle.event_rule.specs.Step.{has_port, step}
use Rattle.event_rule.specs.Simulation.{IsNetState}
use Rattle.event_rule.proofs.Parts.{first-some, first-none, some-first, fits_index}
use Rattle.event_rule.proofs.NetKept.{port_from}
use Rattle.event_machine.proofs.Refusing.{take_no_such, link_empty-isnt_memory, no_such-isnt_memory}
use Rattle.event_machine.proofs.Held.{in_nodes, has_link_to, in_ports, room, take_nothing, take_made, take_refused}
use Rattle.event_machine.proofs.state.NetState.take.Goals as goal
use Rattle.event_machine.proofs.state.NetState.take.Goals.{After-back_port-back, After-take, In-Some, Else-not-has_port}

-- the port is one of the network's
there-is : (g : _) (c : Else-not-has_port g) → IsVertex c.self.inside.net c.args.v × (c.args.port < degree_of c.self.inside.net c.args.v)
there-is g c =
    port_from c.self.inside.net c.args.v c.args.port
    (sym c.has_port.ensures.port ∙ c.if-not-has_port.false)

-- the link that comes by it is there
link-there : (g : _) (c : After-back_port-back g) → IsVertex c.self.inside.net c.args.v × (c.args.port < degree_of c.self.inside.net c.args.v) →
    HasLink c.self.inside.links c.neighbour-from.result c.back_port-back.result
link-there g c there =
    let m = g.P.NodeProgram in
    let a = c.self.inside in
    subst (λ k. HasLink a.links k c.back_port-back.result) (sym c.neighbour-from.ensures.value)
    (subst (λ k. HasLink a.links (neighbour_of a.net c.args.v c.args.port) k) (sym c.back_port-back.ensures.value)
    (has_link_to m.program m.laws a.net a.nodes.items a.links c.self.invariant c.args.v c.args.port there.0 there.1))

-- it is the one that the definition names
link-is : (g : _) (c : After-back_port-back g) →
    link_at c.self.inside.links c.neighbour-from.result c.back_port-back.result ≡ link_to c.self.inside.net c.self.inside.links c.args.v c.args.port
link-is g c = λ i. link_at c.self.inside.links (c.neighbour-from.ensures.value i) (c.back_port-back.ensures.value i)

-- the wire at hand is the oldest on the link
oldest : (g : _) (c : In-Some g) →
    link_at c.self.inside.links c.neighbour-from.result c.back_port-back.result ≡ link_to c.self.inside.net c.self.inside.links c.args.v c.args.port →
    (rest : List _) × ((link_to c.self.inside.net c.self.inside.links c.args.v c.args.port).held ≡ c.in-Some.wire ∷ rest)
oldest g c is =
    first-some (link_to c.self.inside.net c.self.inside.links c.args.v c.args.port).held _
    (ap (λ l. slice_get l.held 0) (sym is) ∙ sym c.next.ensures.next ∙ c.in-Some.is)

-- the step of the definition is made, and what it leaves is a state of the network
taken-in : (g : _) (c : After-take g) →
    (step g.P.NodeProgram.program c.self.inside.net (state_in c.self.inside.nodes.items c.self.inside.links) (Take c.args.v c.args.port)
    ≡ Ok (state_in (set c.self.inside.nodes.items (c.args.v - 1) c.on_wire.new.self) c.take.new.self)) ×
    IsNetState g.P.NodeProgram.program c.self.inside.net (set c.self.inside.nodes.items (c.args.v - 1) c.on_wire.new.self) c.take.new.self
taken-in g c =
    let at = goal.at.invariant_of-self g c in
    let there = there-is g at.Else-not-has_port in
    let first = oldest g at.In-Some (link-is g at.After-back_port-back) in
    let m = g.P.NodeProgram in
    let a = c.self.inside in
    let net_from = c.neighbour-from.ensures.value in
    let net_back = c.back_port-back.ensures.value in
    take_made m.program m.laws a.net a.nodes.items a.links c.self.invariant c.args.v there.0
    c.index_mut-node.result.now c.index_mut-node.ensures.value c.args.port there.1 _ first.0 first.1
    c.on_wire.new.self c.in-Ok.ensures.reaction c.in-Ok.ensures.state c.in-Ok.ensures.last c.take.new.self
    (c.take.ensures.taken
    ∙ ap (λ k. set_link a.links k c.back_port-back.result (take_one (link_at a.links k c.back_port-back.result))) net_from
    ∙ ap (λ k. set_link a.links (neighbour_of a.net c.args.v c.args.port) k (take_one (link_at a.links (neighbour_of a.net c.args.v c.args.port) k)))
    net_back)

pub returns-then-not-has_port-clause-step : goal.returns-then-not-has_port-clause-step
returns-then-not-has_port-clause-step g c =
    let m = g.P.NodeProgram in
    let now = c.args.self.now in
    let missing = ap (λ (s : NetView _ _). has_port s.net c.args.v c.args.port) (sym c.self.view_is) ∙ sym c.has_port.ensures.port ∙ c.if-not-has_port.true in
    λ _. take_no_such m.program now.net now.state c.args.v c.args.port missing

pub returns-then-not-has_port-clause-growth : goal.returns-then-not-has_port-clause-growth
returns-then-not-has_port-clause-growth g c = no_such-isnt_memory

pub neighbour-from-requires-clause-vertex : goal.neighbour-from-requires-clause-vertex
neighbour-from-requires-clause-vertex g c = (there-is g (goal.at.neighbour-from-requires-clause-vertex g c).Else-not-has_port).0

pub neighbour-from-requires-clause-port : goal.neighbour-from-requires-clause-port
neighbour-from-requires-clause-port g c = (there-is g (goal.at.neighbour-from-requires-clause-port g c).Else-not-has_port).1

pub back_port-back-requires-clause-vertex : goal.back_port-back-requires-clause-vertex
back_port-back-requires-clause-vertex g c = (there-is g (goal.at.back_port-back-requires-clause-vertex g c).Else-not-has_port).0

pub back_port-back-requires-clause-port : goal.back_port-back-requires-clause-port
back_port-back-requires-clause-port g c = (there-is g (goal.at.back_port-back-requires-clause-port g c).Else-not-has_port).1

pub next-requires : goal.next-requires
next-requires g c =
    let at = goal.at.next-requires g c in
    record { link = link-there g at.After-back_port-back (there-is g at.Else-not-has_port) }

pub index_mut-node-requires : goal.index_mut-node-requires
index_mut-node-requires g c =
    let m = g.P.NodeProgram in
    let a = c.self.inside in
    let there = there-is g (goal.at.index_mut-node-requires g c).Else-not-has_port in
    subst (λ n. c.args.v - 1 < n) (sym a.nodes.ok.0) (in_nodes m.program m.laws a.net a.nodes.items a.links c.self.invariant c.args.v there.0)

pub on_wire-requires-clause-port : goal.on_wire-requires-clause-port
on_wire-requires-clause-port g c κs within =
    let m = g.P.NodeProgram in
    let a = c.self.inside in
    let there = there-is g (goal.at.on_wire-requires-clause-port g c).Else-not-has_port in
    in_ports m.program m.laws a.net a.nodes.items a.links c.self.invariant c.args.v there.0 c.index_mut-node.result.now c.index_mut-node.ensures.value
    c.args.port there.1

pub on_wire-requires-clause-room : goal.on_wire-requires-clause-room
on_wire-requires-clause-room g c κs within =
    let m = g.P.NodeProgram in
    let a = c.self.inside in
    let there = there-is g (goal.at.on_wire-requires-clause-room g c).Else-not-has_port in
    room m.program m.laws a.net a.nodes.items a.links c.self.invariant c.args.v there.0 c.index_mut-node.result.now c.index_mut-node.ensures.value

pub take-requires-clause-link : goal.take-requires-clause-link
take-requires-clause-link g c =
    let at = goal.at.take-requires-clause-link g c in
    link-there g at.After-back_port-back (there-is g at.Else-not-has_port)

pub invariant_of-self : goal.invariant_of-self
invariant_of-self g c = (taken-in g c).1

pub unreachable-requires : goal.unreachable-requires
unreachable-requires g c =
    let m = g.P.NodeProgram in
    let a = c.self.inside in
    let there = there-is g (goal.at.unreachable-requires g c).Else-not-has_port in
    let at = goal.at.unreachable-requires g c in
    let first = oldest g at.In-Some (link-is g at.After-back_port-back) in
    take_refused m.program m.laws a.net a.nodes.items a.links c.self.invariant c.args.v there.0 c.index_mut-node.result.now c.index_mut-node.ensures.value
    c.args.port there.1 _ first.0 first.1 _ c.in-Err.ensures.reaction

pub returns-in-None-clause-step : goal.returns-in-None-clause-step
returns-in-None-clause-step g c =
    let m = g.P.NodeProgram in
    let a = c.self.inside in
    let there = there-is g (goal.at.returns-in-None-clause-step g c).Else-not-has_port in
    λ _. ap (λ s. step m.program s.net s.state (Take c.args.v c.args.port)) (sym c.self.view_is)
    ∙ take_nothing m.program m.laws a.net a.nodes.items a.links c.self.invariant c.args.v there.0 c.args.port there.1
    (first-none _ (ap (λ l. slice_get l.held 0) (sym (link-is g (goal.at.returns-in-None-clause-step g c).After-back_port-back)) ∙ sym c.next.ensures.next ∙
    c.in-None.is))

pub returns-clause-step : goal.returns-clause-step
returns-clause-step g c = ap (λ s. step g.P.NodeProgram.program s.net s.state (Take c.args.v c.args.port)) (sym c.self.view_is) ∙ (taken-in g c).0

pub returns-in-None-clause-growth : goal.returns-in-None-clause-growth
returns-in-None-clause-growth g c = link_empty-isnt_memory

pub overflow_sub-v : goal.overflow_sub-v
overflow_sub-v g c = (there-is g (goal.at.overflow_sub-v g c).Else-not-has_port).0.0

pub overflow_cast-v : goal.overflow_cast-v
overflow_cast-v g c = fits_index c.args.v c.ranges.v

pub take-requires-clause-some : goal.take-requires-clause-some
take-requires-clause-some g c =
    let first = first-some (link_at c.self.inside.links c.neighbour-from.result c.back_port-back.result).held _
    (sym c.next.ensures.next ∙ c.in-Some.is) in
    some-first _ first.0 _ first.1

pub returns-clause-net : goal.returns-clause-net
returns-clause-net g c = ap (λ s. s.net) c.self.view_is
