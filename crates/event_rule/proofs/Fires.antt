-- An event reads and writes its own node and at most one link: what it needs of these, and what it makes of them.
use Rattle.std.proofs.Common.{◌≡◌, true, List, ◌∷◌, ◌++◌, Ok, take, drop, length, refl, sym, ap, ◌∙◌, arith}
use Rattle.std.proofs.lemmas.List.{length-append}
use Rattle.interference.specs.Net.{Net}
use Rattle.node_api.specs.Program.{Program, last_pulse_on}
use Rattle.wires.specs.declared.wire.Wire.{Wire}
use Rattle.alpha_core.specs.View.{View, Node, port_at, can_pulse}
use Rattle.alpha_core.specs.Alpha.{pulse, reaction, put_done}
use Rattle.event_rule.specs.declared.event.Event.{Event}
use Rattle.event_rule.specs.declared.event.Event.TheVariants.{Pulse, Put, Take}
use Rattle.event_rule.specs.State.{Link, State, node_of, link_at, link_to, set_node, set_link, set_link_to, take_one}
use Rattle.event_rule.specs.Events.{Exists, Steps}
use Rattle.event_rule.specs.Commute.{vertex_of}

-- a link with the first wire of an out-list put on it
abbrev pub put_first : {M : Type 0} → List (Wire M) → Link M → Link M
put_first out link = record { taken = link.taken; held = link.held ++ take 1 out }

-- what an event of a node does to the links
abbrev pub change : {S M : Type 0} → Net → Event → Node S M → List (List (Link M)) → List (List (Link M))
change net (Pulse v) node links = links
change net (Put v i) node links = set_link links v i (put_first (port_at node.view i).out (link_at links v i))
change net (Take v i) node links = set_link_to net links v i (take_one (link_to net links v i))

-- and what it needs of its node and of the links, and makes of the node
abbrev pub Fires : {S M E : Type 0} → Program S M E → Net → Event → Node S M → List (List (Link M)) → Node S M → Type 0
Fires program net (Pulse v) node links next =
    (can_pulse (last_pulse_on program net) node.view ≡ true) × (pulse program.next (last_pulse_on program net) node ≡ Ok next)
Fires {S} {M} program net (Put v i) node links next =
    (wire : Wire M) × (rest : List (Wire M)) × ((port_at node.view i).out ≡ wire ∷ rest) × (next ≡ record node { view = put_done node.view i })
Fires {S} {M} program net (Take v i) node links next =
    (wire : Wire M) × (rest : List (Wire M)) × (view : View M) × ((link_to net links v i).held ≡ wire ∷ rest)
    × (reaction (last_pulse_on program net) node.view i wire ≡ Ok view) × (next ≡ record node { view = view })

module _ {S M E : Type 0} (program : Program S M E) (net : Net) where
  abbrev pub leads_to : State S M → Event → Node S M → State S M
  leads_to state event next = record {
    nodes = set_node state.nodes (vertex_of event) next;
    links = change net event (node_of program net state (vertex_of event)) state.links;
  }

  -- an event leads on exactly if it fires
  pub fires : (state next : State S M) (event : Event) → Steps program net state event next → Exists net event
      × ((node : Node S M) × Fires program net event (node_of program net state (vertex_of event)) state.links node
      × (next ≡ leads_to state event node))
  fires state next (Pulse v) s = (s.possible.0, (s.node, (s.possible.1, s.pulsed), s.leads))
  fires state next (Put v i) s =
      let node = node_of program net state v in (
        s.possible.0,
        (
          record node { view = put_done node.view i },
          (s.wire, s.rest, s.oldest, refl),
          s.leads ∙ ap (λ (l : List (Wire M)). record {
            nodes = set_node state.nodes v record node { view = put_done node.view i };
            links = set_link state.links v i record { taken = (link_at state.links v i).taken; held = (link_at state.links v i).held ++ l };
          }) (sym (ap (take 1) s.oldest)),
        ),
      )
  fires state next (Take v i) s =
      let node = node_of program net state v in
      let old = link_to net state.links v i in (
        s.possible.0,
        (
          record node { view = s.view },
          (s.wire, s.rest, s.view, s.oldest, s.reacted, refl),
          s.leads
              ∙ ap (λ (l : List (Wire M)). record {
                nodes = set_node state.nodes v record node { view = s.view };
                links = set_link_to net state.links v i record { taken = old.taken ++ take 1 l; held = drop 1 l };
              }) (sym s.oldest),
        ),
      )

  pub steps : (state : State S M) (event : Event) (node : Node S M) → Exists net event
      → Fires program net event (node_of program net state (vertex_of event)) state.links node → Steps program net state event (leads_to state event node)
  steps state (Pulse v) node there (can, made) = record { possible = (there, can); node = node; pulsed = made; leads = refl }
  steps state (Put v i) node there (wire, rest, oldest, is) = record {
    possible = (there, omega (arith, ap (λ l. length l) oldest));
    wire = wire;
    rest = rest;
    oldest = oldest;
    leads = ap (λ n. leads_to state (Put v i) n) is ∙ ap (λ (l : List (Wire M)). record {
      nodes = set_node state.nodes v record (node_of program net state v) { view = put_done (node_of program net state v).view i };
      links = set_link state.links v i record { taken = (link_at state.links v i).taken; held = (link_at state.links v i).held ++ l };
    }) (ap (take 1) oldest);
  }
  steps state (Take v i) node there (wire, rest, view, oldest, reacted, is) =
      let old = link_to net state.links v i in
      record {
        possible = (there, omega (arith, length-append old.taken old.held, ap (λ l. length l) oldest));
        wire = wire;
        rest = rest;
        oldest = oldest;
        view = view;
        reacted = reacted;
        leads = ap (λ n. leads_to state (Take v i) n) is ∙ ap (λ (l : List (Wire M)). record {
          nodes = set_node state.nodes v record (node_of program net state v) { view = view };
          links = set_link_to net state.links v i record { taken = old.taken ++ take 1 l; held = drop 1 l };
        }) oldest;
      }
