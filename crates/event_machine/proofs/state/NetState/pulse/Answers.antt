-- The plan: the vertex is one of the network's (vertex-is). If its node can't make a pulse nothing changes (kept_same); if it
-- can, no node refuses its pulse (pulse_refused), and it is made as the definition makes it (pulsed).
use Rattle.std.proofs.Common.{◌≡◌, ◌-◌, ◌<◌, Ok, set, refl, sym, ap, ◌∙◌, subst}
use Rattle.interference.specs.Net.{IsVertex}
use Rattle.event_rule.specs.declared.event.Event.TheVariants.{Pulse}
use Rattle.event_rule.specs.State.{NetView, state_in}
use Rattle.event_rule.specs.Step.{is_vertex, step}
use Rattle.event_rule.specs.Simulation.{IsNetState}
use Rattle.event_rule.proofs.Parts.{fits_index}
use Rattle.event_rule.proofs.NetKept.{vertex_from}
use Rattle.event_machine.proofs.Refusing.{pulse_no_such, not_ready-isnt_memory, no_such-isnt_memory}
use Rattle.event_machine.proofs.Held.{in_nodes, unchanged, kept_same, pulse_not_ready, pulse_made, pulse_refused}
use Rattle.event_machine.proofs.state.NetState.pulse.Goals as goal
use Rattle.event_machine.proofs.state.NetState.pulse.Goals.{Else-not-is_vertex, In-Ok}

-- the vertex is one of the network's
vertex-is : (g : _) (c : Else-not-is_vertex g) → IsVertex c.self.inside.net c.args.v
vertex-is g c =
    vertex_from c.self.inside.net c.args.v (sym c.is_vertex.ensures.vertex ∙ c.if-not-is_vertex.false)

-- the step of the definition is made, and what it leaves is a state of the network
pulsed : (g : _) (c : In-Ok g) → IsVertex c.self.inside.net c.args.v →
    (step g.P.NodeProgram.program c.self.inside.net (state_in c.self.inside.nodes.items c.self.inside.links) (Pulse c.args.v)
    ≡ Ok (state_in (set c.self.inside.nodes.items (c.args.v - 1) c.pulse.new.self) c.self.inside.links)) ×
    IsNetState g.P.NodeProgram.program c.self.inside.net (set c.self.inside.nodes.items (c.args.v - 1) c.pulse.new.self) c.self.inside.links
pulsed g c vertex =
    let m = g.P.NodeProgram in
    let a = c.self.inside in
    pulse_made m.program m.laws a.net a.nodes.items a.links c.self.invariant c.args.v vertex c.index_mut-node.result.now
    c.index_mut-node.ensures.value
    (sym c.can_pulse.ensures.can ∙ c.if-not-can_pulse.false) c.pulse.new.self c.in-Ok.ensures.pulse c.in-Ok.ensures.last

pub index_mut-node-requires : goal.index_mut-node-requires
index_mut-node-requires g c =
    let m = g.P.NodeProgram in
    let a = c.self.inside in
    let vertex = vertex-is g (goal.at.index_mut-node-requires g c).Else-not-is_vertex in
    subst (λ n. c.args.v - 1 < n) (sym a.nodes.ok.0) (in_nodes m.program m.laws a.net a.nodes.items a.links c.self.invariant c.args.v vertex)

pub invariant_of-self : goal.invariant_of-self
invariant_of-self g c =
    let m = g.P.NodeProgram in
    let a = c.self.inside in
    let vertex = vertex-is g (goal.at.invariant_of-self g c).Else-not-is_vertex in
    kept_same m.program m.laws a.net a.nodes.items a.links c.self.invariant c.args.v vertex c.index_mut-node.result.now c.index_mut-node.ensures.value
    c.index_mut-node.result.now refl a.links refl

pub returns-then-not-can_pulse-clause-step : goal.returns-then-not-can_pulse-clause-step
returns-then-not-can_pulse-clause-step g c =
    let m = g.P.NodeProgram in
    let a = c.self.inside in
    let vertex = vertex-is g (goal.at.returns-then-not-can_pulse-clause-step g c).Else-not-is_vertex in
    λ _. ap (λ s. step m.program s.net s.state (Pulse c.args.v)) (sym c.self.view_is)
    ∙ pulse_not_ready m.program m.laws a.net a.nodes.items a.links c.self.invariant c.args.v vertex c.index_mut-node.result.now
    c.index_mut-node.ensures.value
    (sym c.can_pulse.ensures.can ∙ c.if-not-can_pulse.true)

pub unreachable-requires : goal.unreachable-requires
unreachable-requires g c =
    let m = g.P.NodeProgram in
    let a = c.self.inside in
    let vertex = vertex-is g (goal.at.unreachable-requires g c).Else-not-is_vertex in
    pulse_refused m.program m.laws a.net a.nodes.items a.links c.self.invariant c.args.v vertex c.index_mut-node.result.now c.index_mut-node.ensures.value
    (sym c.can_pulse.ensures.can ∙ c.if-not-can_pulse.false) _ c.in-Err.ensures.pulse.2

pub invariant_of-self-2 : goal.invariant_of-self-2
invariant_of-self-2 g c =
    let m = g.P.NodeProgram in
    let a = c.self.inside in
    let vertex = vertex-is g (goal.at.invariant_of-self-2 g c).Else-not-is_vertex in
    let made = pulsed g (goal.at.invariant_of-self-2 g c).In-Ok vertex in
    made.1

pub returns-clause-step : goal.returns-clause-step
returns-clause-step g c =
    let m = g.P.NodeProgram in
    let a = c.self.inside in
    let vertex = vertex-is g (goal.at.returns-clause-step g c).Else-not-is_vertex in
    let made = pulsed g (goal.at.returns-clause-step g c).In-Ok vertex in
    ap (λ s. step m.program s.net s.state (Pulse c.args.v)) (sym c.self.view_is) ∙ made.0

pub returns-then-not-is_vertex-clause-step : goal.returns-then-not-is_vertex-clause-step
returns-then-not-is_vertex-clause-step g c =
    let m = g.P.NodeProgram in
    let now = c.args.self.now in
    let missing = ap (λ (s : NetView _ _). is_vertex s.net c.args.v) (sym c.self.view_is) ∙ sym c.is_vertex.ensures.vertex ∙ c.if-not-is_vertex.true in
    λ _. pulse_no_such m.program now.net now.state c.args.v missing

pub returns-then-not-is_vertex-clause-growth : goal.returns-then-not-is_vertex-clause-growth
returns-then-not-is_vertex-clause-growth g c = no_such-isnt_memory

pub overflow_sub-v : goal.overflow_sub-v
overflow_sub-v g c = (vertex-is g (goal.at.overflow_sub-v g c).Else-not-is_vertex).0

pub overflow_cast-v : goal.overflow_cast-v
overflow_cast-v g c = fits_index c.args.v c.ranges.v

pub returns-then-not-can_pulse-clause-growth : goal.returns-then-not-can_pulse-clause-growth
returns-then-not-can_pulse-clause-growth g c = not_ready-isnt_memory

pub returns-then-not-can_pulse-clause-net : goal.returns-then-not-can_pulse-clause-net
returns-then-not-can_pulse-clause-net g c = ap (λ s. s.net) c.self.view_is

pub returns-then-not-can_pulse-clause-refused : goal.returns-then-not-can_pulse-clause-refused
returns-then-not-can_pulse-clause-refused g c =
    let m = g.P.NodeProgram in
    let a = c.self.inside in
    let vertex = vertex-is g (goal.at.returns-then-not-can_pulse-clause-refused g c).Else-not-is_vertex in
    ap (λ ns. record { net = a.net; state = state_in ns a.links }) (unchanged m.program m.laws a.net a.nodes.items a.links c.self.invariant
    c.args.v vertex c.index_mut-node.result.now c.index_mut-node.ensures.value) ∙ c.self.view_is

pub pulse-requires-clause-can : goal.pulse-requires-clause-can
pulse-requires-clause-can g c κs within = sym c.can_pulse.ensures.can ∙ c.if-not-can_pulse.false

pub returns-clause-net : goal.returns-clause-net
returns-clause-net g c = ap (λ s. s.net) c.self.view_is
