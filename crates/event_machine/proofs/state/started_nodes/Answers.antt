use Rattle.std.proofs.Common.{◌≡◌, [], ◌∷◌, ◌++◌, length, sym, ap, ◌∙◌, arith}
use Rattle.std.specs.List.{range_with_len}
use Rattle.std.proofs.lemmas.List.FromFn.{length-map-range_with_len}
use Rattle.interference.specs.Net.{count_of}
use Rattle.node_api.specs.Program.{last_pulse_on}
use Rattle.alpha_core.specs.View.{Alpha}
use Rattle.alpha_core.specs.Program.{start_node}
use Rattle.event_rule.specs.State.{started_nodes}
use Rattle.event_rule.proofs.Parts.{map-next}
use Rattle.event_machine.proofs.state.started_nodes.Goals as goal

pub push_reserved-requires : goal.push_reserved-requires
push_reserved-requires g c =
    let program = g.P.NodeProgram.program in
    let made = ap length c.loop-i.invariant.made
    ∙ length-map-range_with_len (λ v. record { last = last_pulse_on program c.args.net.now; node = start_node program c.args.net.now v }) 1 c.loop-i.i in
    omega (arith, made, c.loop-i.invariant.room, c.loop-i.nodes.ok.0, c.loop-i-test.true, c.nodes-i-end.ensures.count)

pub loop-i-preserved : goal.loop-i-preserved
loop-i-preserved g c =
    let program = g.P.NodeProgram.program in
    let net = c.args.net.now in
    let i = c.loop-i.i in
    let node = c.in_ok-node.node in
    record {
      room = omega (arith, c.push_reserved.ensures.capacity, c.loop-i.invariant.room);
      made = c.push_reserved.ensures.items
          ∙ ap (λ l. l ++ (node ∷ [])) c.loop-i.invariant.made
          ∙ ap (λ (n : Alpha _ _). started_nodes program net (range_with_len 1 i) ++ (n ∷ []))
          (ap (λ l. record { last = l; node = node.node }) c.in_ok-node.ensures.last
          ∙ ap (λ n. record { last = last_pulse_on program net; node = n }) c.in_ok-node.ensures.node)
          ∙ sym (map-next (λ v. record { last = last_pulse_on program net; node = start_node program net v }) i);
    }

pub returns : goal.returns
returns g c =
    let net = c.args.net.now in
    let end : c.loop-i.i ≡ count_of net = omega (arith, c.loop-i-test.false, c.loop-i.auto.i-end, c.nodes-i-end.ensures.count) in
    record {
      nodes = c.loop-i.invariant.made ∙ ap (λ n. started_nodes g.P.NodeProgram.program net (range_with_len 1 n)) end;
      network = c.nodes.ensures.network;
    }
