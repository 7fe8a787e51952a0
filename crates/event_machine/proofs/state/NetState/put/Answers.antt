-- The plan: the port is one of the network's (there-is), so the link is there. Without a wire to put, or if the link refuses
-- it, nothing changes (in-place); the oldest wire of the port (oldest) is put as the definition puts it (put-in).
use Rattle.std.proofs.Common.{◌≡◌, ◌<◌, ◌-◌, ◌∷◌, List, Ok, length, set, refl, sym, ap, ◌∙◌, subst}
use Rattle.interference.specs.Net.{IsVertex, degree_of}
use Rattle.alpha_core.specs.View.{port_at}
use Rattle.event_rule.specs.declared.event.Event.TheVariants.{Put}
use Rattle.std.proofs.lemmas.Result.{err_from_is_err_and}
use Rattle.event_rule.specs.State.{NetView, state_in}
use Rattle.event_rule.specs.declared.refused.StepRefused.TheVariants.{Memory}
use Rattle.event_rule.specs.Events.{Possible}
use Rattle.event_rule.specs.Step.{has_port, step}
use Rattle.event_rule.specs.Simulation.{IsNetState}
use Rattle.event_rule.proofs.Parts.{first-some, first-none, some-first, fits_index, if_err, on_err}
use Rattle.event_rule.proofs.NetKept.{port_from}
use Rattle.event_machine.proofs.Refusing.{put_no_such, nothing_to_put-isnt_memory, no_such-isnt_memory}
use Rattle.event_machine.proofs.Held.{in_nodes, has_link, in_ports, unchanged, kept_same, put_nothing, put_made, put_possible}
use Rattle.event_machine.proofs.state.NetState.put.Goals as goal
use Rattle.event_machine.proofs.state.NetState.put.Goals.{After-index_mut-node, After-put_done, In-Some, Else-not-has_port}

-- the port is one of the network's
there-is : (g : _) (c : Else-not-has_port g) → IsVertex c.self.inside.net c.args.v × (c.args.port < degree_of c.self.inside.net c.args.v)
there-is g c =
    port_from c.self.inside.net c.args.v c.args.port
    (sym c.has_port.ensures.port ∙ c.if-not-has_port.false)

-- the wire at hand is the oldest of the out-list
oldest : (g : _) (c : In-Some g) → (rest : List _) × ((port_at c.index_mut-node.result.now.node.view c.args.port).out ≡ c.in-Some.wire ∷ rest)
oldest g c = first-some (port_at c.index_mut-node.result.now.node.view c.args.port).out _ (sym c.front.ensures.oldest ∙ c.in-Some.is)

-- the node has the port, and where it stands it changes nothing
in-place : (g : _) (c : After-index_mut-node g) → IsVertex c.self.inside.net c.args.v × (c.args.port < degree_of c.self.inside.net c.args.v) →
    (c.args.port < length c.index_mut-node.result.now.node.view.ports) ×
    (set c.self.inside.nodes.items (c.args.v - 1) c.index_mut-node.result.now ≡ c.self.inside.nodes.items) ×
    IsNetState g.P.NodeProgram.program c.self.inside.net (set c.self.inside.nodes.items (c.args.v - 1) c.index_mut-node.result.now) c.self.inside.links
in-place g c there =
    let m = g.P.NodeProgram in
    let a = c.self.inside in
    let x = c.index_mut-node.result.now in (
      in_ports m.program m.laws a.net a.nodes.items a.links c.self.invariant c.args.v there.0 x c.index_mut-node.ensures.value c.args.port there.1,
      unchanged m.program m.laws a.net a.nodes.items a.links c.self.invariant c.args.v there.0 x c.index_mut-node.ensures.value,
      kept_same m.program m.laws a.net a.nodes.items a.links c.self.invariant c.args.v there.0 x c.index_mut-node.ensures.value x refl a.links refl,
    )

-- the step of the definition is made, and what it leaves is a state of the network
put-in : (g : _) (c : After-put_done g) → IsVertex c.self.inside.net c.args.v × (c.args.port < degree_of c.self.inside.net c.args.v) →
    (step g.P.NodeProgram.program c.self.inside.net (state_in c.self.inside.nodes.items c.self.inside.links) (Put c.args.v c.args.port)
    ≡ Ok (state_in (set c.self.inside.nodes.items (c.args.v - 1) c.put_done.new.self) c.put.new.self)) ×
    IsNetState g.P.NodeProgram.program c.self.inside.net (set c.self.inside.nodes.items (c.args.v - 1) c.put_done.new.self) c.put.new.self
put-in g c there =
    let first = first-some (port_at c.index_mut-node.result.now.node.view c.args.port).out _ (sym c.front.ensures.oldest ∙ c.in-Some.is) in
    let m = g.P.NodeProgram in
    let a = c.self.inside in
    put_made m.program m.laws a.net a.nodes.items a.links c.self.invariant c.args.v there.0 c.index_mut-node.result.now
    c.index_mut-node.ensures.value c.args.port there.1 _ first.0 first.1
    c.put_done.new.self c.put_done.ensures.view c.put_done.ensures.state c.put_done.ensures.last c.put.new.self c.in_ok-put.ensures.put

pub index_mut-node-requires : goal.index_mut-node-requires
index_mut-node-requires g c =
    let m = g.P.NodeProgram in
    let a = c.self.inside in
    let there = there-is g (goal.at.index_mut-node-requires g c).Else-not-has_port in
    subst (λ n. c.args.v - 1 < n) (sym a.nodes.ok.0) (in_nodes m.program m.laws a.net a.nodes.items a.links c.self.invariant c.args.v there.0)

pub front-requires-clause-port : goal.front-requires-clause-port
front-requires-clause-port g c κs within = (in-place g c (there-is g (goal.at.front-requires-clause-port g c).Else-not-has_port)).0

pub put-requires : goal.put-requires
put-requires g c =
    let m = g.P.NodeProgram in
    let a = c.self.inside in
    let there = there-is g (goal.at.put-requires g c).Else-not-has_port in
    record { link = has_link m.program m.laws a.net a.nodes.items a.links c.self.invariant c.args.v c.args.port there.0 there.1 }

pub returns-in-None-clause-step : goal.returns-in-None-clause-step
returns-in-None-clause-step g c =
    let m = g.P.NodeProgram in
    let a = c.self.inside in
    let there = there-is g (goal.at.returns-in-None-clause-step g c).Else-not-has_port in
    λ _. ap (λ s. step m.program s.net s.state (Put c.args.v c.args.port)) (sym c.self.view_is)
    ∙ put_nothing m.program m.laws a.net a.nodes.items a.links c.self.invariant c.args.v there.0 c.index_mut-node.result.now c.index_mut-node.ensures.value
    c.args.port there.1
    (first-none _ (sym c.front.ensures.oldest ∙ c.in-None.is))

pub invariant_of-self : goal.invariant_of-self
invariant_of-self g c =
    let at = goal.at.invariant_of-self g c in
    (in-place g at.After-index_mut-node (there-is g at.Else-not-has_port)).2

pub invariant_of-self-in_err-put : goal.invariant_of-self-in_err-put
invariant_of-self-in_err-put g c =
    let at = goal.at.invariant_of-self-in_err-put g c in
    subst (λ l. IsNetState g.P.NodeProgram.program c.self.inside.net (set c.self.inside.nodes.items (c.args.v - 1) c.index_mut-node.result.now) l)
    (sym c.in_err-put.ensures.refused) (in-place g at.After-index_mut-node (there-is g at.Else-not-has_port)).2

pub returns-in_err-put-clause-step : goal.returns-in_err-put-clause-step
returns-in_err-put-clause-step g c =
    let p = err_from_is_err_and c.from_residual.result c.from_residual.ensures.1 in
    rw (p.1, p.2) (λ never. absurd (never refl))

pub returns-in_err-put-clause-refused : goal.returns-in_err-put-clause-refused
returns-in_err-put-clause-refused g c =
    let a = c.self.inside in
    let at = goal.at.returns-in_err-put-clause-refused g c in
    let same = (in-place g at.After-index_mut-node (there-is g at.Else-not-has_port)).1 in
    on_err c.from_residual.result
    (ap (λ ns. record { net = a.net; state = state_in ns c.put.new.self }) same
    ∙ ap (λ l. record { net = a.net; state = state_in a.nodes.items l }) c.in_err-put.ensures.refused ∙ c.self.view_is)

pub invariant_of-self-2 : goal.invariant_of-self-2
invariant_of-self-2 g c =
    let at = goal.at.invariant_of-self-2 g c in
    (put-in g at.After-put_done (there-is g at.Else-not-has_port)).1

pub returns-clause-step : goal.returns-clause-step
returns-clause-step g c =
    let at = goal.at.returns-clause-step g c in
    ap (λ s. step g.P.NodeProgram.program s.net s.state (Put c.args.v c.args.port)) (sym c.self.view_is)
    ∙ (put-in g at.After-put_done (there-is g at.Else-not-has_port)).0

pub returns-in_err-put-clause-growth : goal.returns-in_err-put-clause-growth
returns-in_err-put-clause-growth g c =
    let m = g.P.NodeProgram in
    let a = c.self.inside in
    let there = there-is g (goal.at.returns-in_err-put-clause-growth g c).Else-not-has_port in
    let first = oldest g (goal.at.returns-in_err-put-clause-growth g c).In-Some in
    if_err c.from_residual.result Memory
    (subst (λ s. Possible m.program s.net s.state (Put c.args.v c.args.port)) c.self.view_is
    (put_possible m.program m.laws a.net a.nodes.items a.links c.self.invariant c.args.v there.0 c.index_mut-node.result.now c.index_mut-node.ensures.value
    c.args.port there.1 _ first.0 first.1))

pub returns-then-not-has_port-clause-step : goal.returns-then-not-has_port-clause-step
returns-then-not-has_port-clause-step g c =
    let m = g.P.NodeProgram in
    let now = c.args.self.now in
    let missing = ap (λ (s : NetView _ _). has_port s.net c.args.v c.args.port) (sym c.self.view_is) ∙ sym c.has_port.ensures.port ∙ c.if-not-has_port.true in
    λ _. put_no_such m.program now.net now.state c.args.v c.args.port missing

pub returns-then-not-has_port-clause-growth : goal.returns-then-not-has_port-clause-growth
returns-then-not-has_port-clause-growth g c = λ e. absurd (no_such-isnt_memory e)

pub overflow_sub-v : goal.overflow_sub-v
overflow_sub-v g c = (there-is g (goal.at.overflow_sub-v g c).Else-not-has_port).0.0

pub overflow_cast-v : goal.overflow_cast-v
overflow_cast-v g c = fits_index c.args.v c.ranges.v

pub returns-in-None-clause-growth : goal.returns-in-None-clause-growth
returns-in-None-clause-growth g c = λ e. absurd (nothing_to_put-isnt_memory e)

pub returns-in-None-clause-net : goal.returns-in-None-clause-net
returns-in-None-clause-net g c = ap (λ s. s.net) c.self.view_is

pub returns-in-None-clause-refused : goal.returns-in-None-clause-refused
returns-in-None-clause-refused g c =
    let at = goal.at.returns-in-None-clause-refused g c in
    let same = (in-place g at.After-index_mut-node (there-is g at.Else-not-has_port)).1 in
    ap (λ ns. record { net = c.self.inside.net; state = state_in ns c.self.inside.links }) same ∙ c.self.view_is

pub returns-in_err-put-clause-net : goal.returns-in_err-put-clause-net
returns-in_err-put-clause-net g c = ap (λ s. s.net) c.self.view_is

pub put_done-requires-clause-port : goal.put_done-requires-clause-port
put_done-requires-clause-port g c κs within =
    let at = goal.at.put_done-requires-clause-port g c in
    (in-place g at.After-index_mut-node (there-is g at.Else-not-has_port)).0

pub put_done-requires-clause-some : goal.put_done-requires-clause-some
put_done-requires-clause-some g c κs within =
    let first = oldest g (goal.at.put_done-requires-clause-some g c).In-Some in
    some-first _ first.0 _ first.1

pub returns-clause-net : goal.returns-clause-net
returns-clause-net g c = ap (λ s. s.net) c.self.view_is
