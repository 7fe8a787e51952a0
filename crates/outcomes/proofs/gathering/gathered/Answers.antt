use Rattle.std.proofs.Common.{◌≡◌, ◌≤◌, ◌<◌, ◌^◌, ◌++◌, length, map, refl, sym, ◌∙◌, subst}
use Rattle.std.specs.Prelude.{All}
use Rattle.std.proofs.lemmas.Simd.{map-map}
use Rattle.interference.specs.Net.{IsNetwork}
use Rattle.wired_nodes.proofs.Lists.{as_long}
use Rattle.wired_nodes.specs.Node.{by_port, reacted_to}
use Rattle.wired_nodes.specs.Written.{IsTranscript}
use Rattle.entries.specs.Rows.{bare_of}
use Rattle.port_rows.specs.Rows.{AreCrossed, HasShape, rows_of}
use Rattle.wired_nodes.specs.HasStamps.{HasStamps}
use Rattle.entries.specs.Recorded.{entries_by}
use Rattle.link_queue.specs.Ends.{held_stamped, put_list, put_stamped, taken_list, taken_stamped}
use Rattle.node_api.specs.Program.{last_pulse_on}
use Rattle.event_rule.proofs.Short.{few-events}
use Rattle.outcomes.proofs.Fits.{none_full}
use Rattle.outcomes.proofs.Full.{all_left, all_refused, none_refused}
use Rattle.port_rows.proofs.Sides.{all_by}
use Rattle.outcomes.specs.Meets.{history_of_met, put_of, taken_of}
use Rattle.outcomes.specs.Outcome.{IsOutcome, Outcome}
use Rattle.outcomes.specs.Gathers.{gathered_of}
use Rattle.port_rows.proofs.Rows.{all_rows, of_fields, of_items, shape_of}
use Rattle.outcomes.proofs.Places.{ends_meet}
use Rattle.outcomes.proofs.Linked.{AreGathered}
use Rattle.outcomes.proofs.Did.{ran}
use Rattle.outcomes.proofs.Simulating.{is_outcome}
use Rattle.outcomes.proofs.gathering.gathered.Goals as goal

-- each node has an end that takes for each port
pub crossed-requires : goal.crossed-requires
crossed-requires g c =
    let net = g.J.Wiring.net in
    let nodes = c.args.nodes.items in
    record {
      shape = subst (λ rows. HasShape c.args.net.now rows) (sym c.in_ok-actors.ensures.takes)
          (subst (λ net. HasShape net (map (λ b. b.value.takes.items) nodes)) c.requires.network
          (shape_of net (λ b. b.value.vertex) nodes c.requires.nodes (λ b. b.value.takes.items) (λ b. as_long _ _ b.value.takes.items _ b.value.kept.ins)));
    }

pub meet_rows-requires-clause-takes : goal.meet_rows-requires-clause-takes
meet_rows-requires-clause-takes g c κs within =
    let net = g.J.Wiring.net in
    let nodes = c.args.nodes.items in
    let ok = subst IsNetwork (sym c.requires.network) c.in_ok-takes.ensures.network in
    let crossed = rows_of c.in_ok-takes.takes.items in
    let crosses = subst (λ rows. AreCrossed net rows crossed) c.in_ok-actors.ensures.takes
    (subst (λ net. AreCrossed net (rows_of c.in_ok-actors.field-0.takes.items) crossed) (sym c.requires.network)
    c.in_ok-takes.ensures.crossed) in
    of_items (λ row. row.items) c.in_ok-takes.takes.items (λ e. (e.vertex, e.port)) _ refl
    ∙ ends_meet net ok (λ b. b.value.vertex) nodes c.requires.nodes (λ b. b.value.puts.items) (λ e. (e.vertex, e.port)) (λ b. b.value.kept.outs)
    (λ b. b.value.takes.items) (λ e. (e.vertex, e.port)) (λ b. b.value.kept.ins) crossed crosses
    ∙ sym (of_items (λ row. row.items) c.in_ok-actors.field-0.puts.items (λ e. (e.vertex, e.port)) _ c.in_ok-actors.ensures.puts)

pub returns : goal.returns
returns g c =
    let program = g.P.NodeProgram.program in
    let net = g.J.Wiring.net in
    let nodes = c.args.nodes.items in
    let ok = subst IsNetwork (sym c.requires.network) c.in_ok-takes.ensures.network in
    let crossed = rows_of c.in_ok-takes.takes.items in
    let mets = c.in_ok-links.links.items in
    let actors = c.in_ok-actors.field-0.actors.items in
    let met = c.in_ok-links.ensures.met in
    let outcome : Outcome _ _ = record { nodes = map gathered_of actors; links = map (λ row. map history_of_met row.items) mets } in
    let gathered : AreGathered program net nodes (λ b. b.value.vertex) (λ b. b.value.alpha) (λ b. b.value.aside) (λ b. b.value.counter)
    (λ b. b.value.puts.items) (λ e. put_stamped e.end) (λ b. b.value.takes.items) (λ e. taken_stamped e.end)
    (λ b. entries_by b.value.recorder) crossed g.J.Wiring.transcript outcome = record {
      laws = g.P.NodeProgram.laws;
      network = ok;
      last = λ b. b.value.kept.last_is;
      keeps = λ b. b.value.kept.keeps;
      set_aside = λ b x e. b.value.kept.set_aside x e;
      writes = λ b. let n = b.value in
          subst (λ t. IsTranscript program net n.vertex t n.alpha.node (by_port (map (λ e. put_list e.end) n.puts.items))
          (by_port (reacted_to n.aside (map (λ e. taken_list e.end) n.takes.items))) (bare_of (entries_by n.recorder))) n.kept.recorded n.kept.writes;
      stamps = λ b. let n = b.value in
          subst (λ t. HasStamps net n.vertex t n.counter (by_port (map (λ e. put_stamped e.end) n.puts.items))
          (by_port (map (λ e. taken_stamped e.end) n.takes.items)) (entries_by n.recorder)) n.kept.recorded n.kept.stamps;
      outs = λ b. as_long _ _ b.value.puts.items _ b.value.kept.outs;
      ins = λ b. as_long _ _ b.value.takes.items _ b.value.kept.ins;
      order = c.requires.nodes;
      crosses = subst (λ rows. AreCrossed net rows crossed) c.in_ok-actors.ensures.takes
          (subst (λ net. AreCrossed net (rows_of c.in_ok-actors.field-0.takes.items) crossed) (sym c.requires.network)
          c.in_ok-takes.ensures.crossed);
      vertices_are = map-map (λ g. g.vertex) gathered_of actors ∙ c.in_ok-actors.ensures.vertices;
      alphas_are = map-map (λ g. g.alpha) gathered_of actors ∙ c.in_ok-actors.ensures.alphas;
      entries_are = map-map (λ g. g.entries) gathered_of actors ∙ c.in_ok-actors.ensures.entries;
      puts_are = of_fields (λ row. row.items) mets history_of_met (λ h. h.put) ∙ met.puts_are
          ∙ of_items (λ row. row.items) c.in_ok-actors.field-0.puts.items (λ e. put_stamped e.end) _ c.in_ok-actors.ensures.puts
          ∙ map-map (λ row. map (λ e. put_stamped e.end) row) (λ b. b.value.puts.items) nodes;
      takens_are = of_fields (λ row. row.items) mets history_of_met (λ h. h.taken) ∙ met.takens_are
          ∙ of_items (λ row. row.items) c.in_ok-takes.takes.items (λ e. taken_stamped e.end) _ refl;
      splits = all_rows (λ row. row.items) mets (λ h. h.put ≡ h.taken ++ h.held) history_of_met
          (all_by (λ mets. All (λ met. put_of met ≡ taken_of met ++ held_stamped met) mets) (λ row. row.items) mets met.splits);
    } in
    let few = few-events program net ok (subst (λ n. last_pulse_on program n < 2 ^ 32) (sym c.requires.network)
    c.last_pulse_of-last.ensures.short) in
    let fits = none_full gathered (λ b x e. b.value.kept.full x e) (λ b. b.value.kept.did) in
    let left = all_left (λ b. b.value.counter) (λ b. b.value.aside) nodes _ few fits in
    let refused = all_refused (λ b. b.value.counter) (λ b. b.value.aside) nodes left (λ b x e s why. (b.value.kept.full x e s why).1) in
    record {
      outcome = λ capacity below.
          subst (λ net. IsOutcome program net capacity g.J.Wiring.transcript outcome) c.requires.network
          (is_outcome gathered refused capacity
          (all_rows (λ row. row.items) mets (λ h. length h.held ≤ capacity) history_of_met (c.in_ok-links.ensures.room capacity below))
          (ran gathered (λ b. b.value.kept.did) refused));
      stamps = left;
      none_refused = none_refused (λ b. b.value.counter) (λ b. b.value.aside) nodes left (λ b. b.value.refusal) (λ b. b.value.remembers)
          c.requires.none_refused;
    }
