use Rattle.std.proofs.Common.{[], sym, subst, ap, ◌∙◌, map, refl}
use Rattle.std.specs.Prelude.{true}
use Rattle.interference.specs.Net.{IsNetwork, IsVertex, degree_of, neighbour_of}
use Rattle.node_api.specs.Program.{last_pulse_on}
use Rattle.alpha_core.specs.Program.{start_node}
use Rattle.alpha_laws.proofs.NodeLaws.{starts_keep}
use Rattle.alpha_laws.specs.Kept.{NodeKept}
use Rattle.alpha_laws.specs.Stands.{TakesAreLegal}
use Rattle.link_rule.specs.Sent.{IsLegal, sends}
use Rattle.alpha_laws.proofs.Runs.{runs}
use Rattle.entries.specs.Recorded.{entries_by, is_on}
use Rattle.entries.specs.Rows.{bare_of}
use Rattle.link_queue.specs.Ends.{put_list, put_stamped, taken_list, taken_stamped}
use Rattle.wired_nodes.specs.Node.{by_port, links_in, links_out}
use Rattle.wired_nodes.proofs.Lists.{none_at}
use Rattle.wired_nodes.proofs.Kept.{node_same}
use Rattle.wired_nodes.proofs.TakenLegal.{none_legal}
use Rattle.wired_nodes.proofs.HasStamps.{has_at_start, none_stamped_at}
use Rattle.wired_nodes.specs.Written.{IsTranscript}
use Rattle.wired_nodes.proofs.Written.{starts_transcript}
use Rattle.wired_nodes.proofs.node.Node.start.Goals as goal

-- the network that the run picked is this one, at whose start the node keeps its empty links
pub invariant_of-result : goal.invariant_of-result
invariant_of-result g c =
    let program = g.P.NodeProgram.program in
    let same = sym c.requires.network in
    let sent = by_port (map (λ e. put_list e.end) c.args.puts.items) in
    let taken = by_port (map (λ e. taken_list e.end) c.args.takes.items) in
    let run = runs program g.P.NodeProgram.laws c.args.net.now c.degree.ensures.network in
    let fresh = starts_keep program c.args.net.now run c.args.vertex c.requires.vertex in
    let kept = node_same program c.args.net.now c.args.vertex (start_node program c.args.net.now c.args.vertex) (λ i. []) (λ i. [])
    sent taken (λ i lt. none_at (λ e. put_list e.end) c.args.puts.items c.requires.nothing_put i)
    (λ i lt. none_at (λ e. taken_list e.end) c.args.takes.items c.requires.nothing_taken i) fresh in
    record {
      kept = record {
        network = subst (λ net. IsNetwork net) same c.degree.ensures.network;
        is_vertex = subst (λ net. IsVertex net c.args.vertex) same c.requires.vertex;
        recorded = c.new-2.ensures.on ∙ sym c.requires.transcript;
        ports = c.degree.ensures.value ∙ ap (λ net. degree_of net c.args.vertex) same;
        outs = c.requires.outs ∙ ap (λ net. links_out net c.args.vertex) same;
        ins = c.requires.ins ∙ ap (λ net. links_in net c.args.vertex) same;
        last_is = c.in_ok-alpha.ensures.last ∙ ap (λ net. last_pulse_on program net) same;
        keeps = subst (λ net. NodeKept program net c.args.vertex c.in_ok-alpha.alpha.node sent
            taken) same (subst (λ n. NodeKept program c.args.net.now c.args.vertex n sent
            taken) (sym c.in_ok-alpha.ensures.node) kept);
        legal = subst (λ net. TakesAreLegal program net c.args.vertex taken) same (λ i lt.
            let w = neighbour_of c.args.net.now c.args.vertex i in
            subst (λ l. IsLegal program c.args.net.now w c.args.vertex l)
            (none_at (λ e. taken_list e.end) c.args.takes.items c.requires.nothing_taken i)
            (none_legal (last_pulse_on program c.args.net.now) (sends program c.args.net.now w c.args.vertex) (sends program c.args.net.now c.args.vertex w)));
        set_aside = λ a none. absurd cc;
        writes = subst (λ net. IsTranscript program net c.args.vertex (is_on c.new-2.result) c.in_ok-alpha.alpha.node sent taken
            (bare_of (entries_by c.new-2.result))) same
            (subst (λ n. IsTranscript program c.args.net.now c.args.vertex (is_on c.new-2.result) n sent taken (bare_of (entries_by c.new-2.result)))
            (sym c.in_ok-alpha.ensures.node)
            (starts_transcript program c.args.net.now c.args.vertex (is_on c.new-2.result) sent taken (bare_of (entries_by c.new-2.result))
            (none_at (λ e. put_list e.end) c.args.puts.items c.requires.nothing_put)
            (none_at (λ e. taken_list e.end) c.args.takes.items c.requires.nothing_taken) (ap (λ l. bare_of l) c.new-2.ensures.entries)));
        stamps = has_at_start g.J.Wiring.net c.args.vertex (is_on c.new-2.result) c.new.result (by_port (map (λ e. put_stamped e.end) c.args.puts.items))
            (by_port (map (λ e. taken_stamped e.end) c.args.takes.items)) (entries_by c.new-2.result) c.new.ensures.zero
            (none_stamped_at (λ e. put_stamped e.end) c.args.puts.items c.requires.nothing_put) c.new-2.ensures.entries;
        full = λ a none. absurd cc;
        did = ∣ record {
          entries = [];
          writes = subst (λ net. IsTranscript program net c.args.vertex true c.in_ok-alpha.alpha.node sent taken (bare_of [])) same
              (subst (λ n. IsTranscript program c.args.net.now c.args.vertex true n sent taken (bare_of [])) (sym c.in_ok-alpha.ensures.node)
              (starts_transcript program c.args.net.now c.args.vertex true sent taken []
              (none_at (λ e. put_list e.end) c.args.puts.items c.requires.nothing_put)
              (none_at (λ e. taken_list e.end) c.args.takes.items c.requires.nothing_taken) refl));
          stamps = has_at_start g.J.Wiring.net c.args.vertex true c.new.result (by_port (map (λ e. put_stamped e.end) c.args.puts.items))
              (by_port (map (λ e. taken_stamped e.end) c.args.takes.items)) [] c.new.ensures.zero
              (none_stamped_at (λ e. put_stamped e.end) c.args.puts.items c.requires.nothing_put) refl;
        } ∣₁;
      };
      remembers = λ none. absurd cc;
    }
