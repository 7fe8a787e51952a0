-- What stands in a later state of a run: pulses don't fall, and what was put on a link and taken from it only grows. It
-- is so of each event, and so of each list of events, which also keeps what a network keeps. The events of another node
-- leave a node as it is.
use Rattle.std.proofs.Common.{◌≡◌, ℕ, suc, ◌<◌, ◌≤◌, List, [], ◌∷◌, ◌++◌, refl, sym, ap, ◌∙◌, append_assoc, append-nil, arith, subst}
use Rattle.std.specs.Prelude.{All}
use Rattle.interference.specs.Net.{Net, IsNetwork, IsVertex, degree_of, neighbour_of, back_port_of}
use Rattle.node_api.specs.Program.{Program, last_pulse_on}
use Rattle.alpha_core.specs.Alpha.{put_done}
use Rattle.alpha_core.specs.View.{Node, inbox_of}
use Rattle.alpha_laws.proofs.PulseAfter.{pulsed_pulse, reaction_pulse}
use Rattle.alpha_laws.proofs.Runs.{Runs}
use Rattle.alpha_laws.proofs.Shown.{HasRest}
use Rattle.event_rule.specs.declared.event.Event.{Event}
use Rattle.event_rule.specs.declared.event.Event.TheVariants.{Pulse, Put, Take}
use Rattle.event_rule.specs.State.{Link, State, link_at, link_to, node_of, sent_of, set_link, set_node}
use Rattle.event_rule.specs.Events.{IsRunFrom, Steps}
use Rattle.event_rule.proofs.NetKept.{NetKept}
use Rattle.event_rule.specs.Commute.{vertex_of}
use Rattle.event_rule.proofs.Maximal.{next_kept}
use Rattle.event_rule.proofs.Changes.{pulse_of, all_links, node_is, pulses_up}

rest_none : {A : Type 0} (xs : List A) → HasRest xs xs
rest_none xs = ([], append-nil xs)

pub rest_then : {A : Type 0} (xs ys zs : List A) → HasRest xs ys → HasRest ys zs → HasRest xs zs
rest_then xs ys zs a b = (a.0 ++ b.0, sym (append_assoc xs a.0 b.0) ∙ ap (λ l. l ++ b.0) a.1 ∙ b.1)

module _ {S M E : Type 0} (program : Program S M E) (net : Net) where
  pub record Later (old new : State S M) : Type 0 where
    pub pulses : (v : ℕ) → IsVertex net v → pulse_of program net old v ≤ pulse_of program net new v
    pub sent : (v i : ℕ) → IsVertex net v → i < degree_of net v
        → HasRest (sent_of (link_at old.links v i)) (sent_of (link_at new.links v i))
    pub taken : (v i : ℕ) → IsVertex net v → i < degree_of net v
        → HasRest (link_at old.links v i).taken (link_at new.links v i).taken

  pub later_same : (state : State S M) → Later state state
  later_same state = record {
    pulses = λ v vertex. omega arith;
    sent = λ v i vertex lt. rest_none _;
    taken = λ v i vertex lt. rest_none _;
  }

  pub later_then : (a b c : State S M) → Later a b → Later b c → Later a c
  later_then a b c one two = record {
    pulses = λ v vertex. omega (arith, one.pulses v vertex, two.pulses v vertex);
    sent = λ v i vertex lt. rest_then _ _ _ (one.sent v i vertex lt) (two.sent v i vertex lt);
    taken = λ v i vertex lt. rest_then _ _ _ (one.taken v i vertex lt) (two.taken v i vertex lt);
  }

module _ {S M E : Type 0} {program : Program S M E} {net : Net} (ok : IsNetwork net) {state : State S M} (kept : NetKept program net state) where
  abbrev Sent : Link M → Link M → Type 0
  Sent old new = HasRest (sent_of old) (sent_of new)

  abbrev Taken : Link M → Link M → Type 0
  Taken old new = HasRest old.taken new.taken

  later_by : (next : State S M) (v : ℕ) (node : Node S M) (links : List (List (Link M))) → IsVertex net v
      → next ≡ record { nodes = set_node state.nodes v node; links = links } → pulse_of program net state v ≤ node.view.pulse
      → ((u j : ℕ) → IsVertex net u → Sent (link_at state.links u j) (link_at links u j))
      → ((u j : ℕ) → IsVertex net u → Taken (link_at state.links u j) (link_at links u j)) → Later program net state next
  later_by next v node links vertex leads up sent taken =
      subst (λ s. Later program net state s) (sym leads) record {
        pulses = λ u vertex'. pulses_up ok kept v node vertex up u vertex';
        sent = λ u j vertex' lt. sent u j vertex';
        taken = λ u j vertex' lt. taken u j vertex';
      }

  step_later : (event : Event) (next : State S M) → Steps program net state event next → Later program net state next
  step_later (Pulse v) next s =
      let node = node_of program net state v in
      let up = pulsed_pulse (last_pulse_on program net) node s.node (program.next node.state (suc node.view.pulse) (inbox_of node.view)) s.pulsed in
      later_by next v s.node state.links s.possible.0 s.leads (omega (arith, up)) (λ u j vertex. rest_none _) (λ u j vertex. rest_none _)
  step_later (Put v i) next s =
      let there = s.possible.0 in
      let old = link_at state.links v i in
      let link : Link M = record old { held = old.held ++ (s.wire ∷ []) } in
      later_by next v record (node_of program net state v) { view = put_done (node_of program net state v).view i } (set_link state.links v i link)
      there.0 s.leads (omega arith)
      (λ u j vertex. all_links ok kept Sent (λ l. rest_none _) v i link there.0 there.1
      (s.wire ∷ [], append_assoc old.taken old.held (s.wire ∷ [])) u j vertex)
      (λ u j vertex. all_links ok kept Taken (λ l. rest_none _) v i link there.0 there.1 (rest_none _) u j vertex)
  step_later (Take v i) next s =
      let there = s.possible.0 in
      let w = neighbour_of net v i in
      let k = back_port_of net v i in
      let old = link_to net state.links v i in
      let node = node_of program net state v in
      let link : Link M = record { taken = old.taken ++ (s.wire ∷ []); held = s.rest } in
      let vertex' = ok.vertices v i there.0 there.1 in
      let lt' = ok.symmetric v i there.0 there.1 in
      let up = reaction_pulse (last_pulse_on program net) node.view s.view i s.wire s.reacted in
      let same : sent_of old ≡ sent_of link =
      ap (λ l. old.taken ++ l) s.oldest ∙ sym (append_assoc old.taken (s.wire ∷ []) s.rest) in
      later_by next v record node { view = s.view } (set_link state.links w k link) there.0 s.leads (omega (arith, up))
      (λ u j vertex. all_links ok kept Sent (λ l. rest_none _) w k link vertex' lt' (subst (λ l. HasRest (sent_of old) l) same (rest_none _)) u j vertex)
      (λ u j vertex. all_links ok kept Taken (λ l. rest_none _) w k link vertex' lt' (s.wire ∷ [], refl) u j vertex)

module _ {S M E : Type 0} {program : Program S M E} {net : Net} (ok : IsNetwork net) (runs : Runs program net) where
  pub record Led (old new : State S M) : Type 0 where
    pub kept : NetKept program net new
    pub later : Later program net old new

  pub led : (events : List Event) (state last : State S M) → NetKept program net state → IsRunFrom program net state events last → Led state last
  led [] state last kept same = subst (λ s. Led state s) (sym same) record { kept = kept; later = later_same program net state }
  led (event ∷ events) state last kept (next, s, rest) =
      let more = led events next last (next_kept ok runs state next event kept s) rest in
      record { kept = more.kept; later = later_then program net state next last (step_later ok kept event next s) more.later }

  -- another node's events leave a node
  pub others_stay : (v u : ℕ) (events : List Event) (state last : State S M) → NetKept program net state → All (λ event. vertex_of event ≡ v) events
      → IsVertex net u → (u ≡ v → ⊥) → IsRunFrom program net state events last → node_of program net last u ≡ node_of program net state u
  others_stay v u [] state last kept own vertex ne same = ap (λ s. node_of program net s u) same
  others_stay v u (event ∷ events) state last kept own vertex ne (next, s, rest) =
      others_stay v u events next last (next_kept ok runs state next event kept s) (λ k d lt. own (suc k) d (omega arith)) vertex ne rest
      ∙ node_is ok kept event next s u vertex (λ e. ne (e ∙ own 0 event (omega arith)))
