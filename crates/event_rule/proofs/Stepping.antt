-- One step, as a function and as a relation.
use Rattle.std.proofs.Common.{◌≡◌, ℕ, ◌<◌, inl, inr, Bool, true, false, List, [], ◌∷◌, ◌++◌, length, Result, Ok, Err, refl, sym, ap, ◌∙◌, arith}
use Rattle.std.specs.Prelude.{if◌then◌else◌}
use Rattle.std.proofs.lemmas.List.{append-nil, length-append}
use Rattle.std.proofs.lemmas.Bool.{false_from_ne_true}
use Rattle.interference.specs.Net.{Net, IsNetwork}
use Rattle.node_api.specs.Program.{Program, last_pulse_on}
use Rattle.wires.specs.declared.wire.Wire.{Wire}
use Rattle.alpha_core.specs.View.{port_at, can_pulse}
use Rattle.alpha_laws.proofs.Runs.{Runs}
use Rattle.alpha_laws.proofs.Next.{next_pulse, next_reacts}
use Rattle.event_rule.specs.declared.event.Event.{Event}
use Rattle.event_rule.specs.declared.event.Event.TheVariants.{Pulse, Put, Take}
use Rattle.event_rule.specs.declared.refused.StepRefused.{StepRefused}
use Rattle.event_rule.specs.declared.refused.StepRefused.TheVariants.{NotReady, NoSuch}
use Rattle.event_rule.specs.State.{State, node_of, link_to, sent_of, set_node, set_link_to}
use Rattle.event_rule.specs.Step.{is_vertex, has_port, else_old, after_pulse, after_put, after_take, step}
use Rattle.event_rule.specs.Events.{Exists, Ready, not_ready, WhyNot, Steps}
use Rattle.event_rule.proofs.NetKept.{NetKept, all_kept, vertex_from, vertex_is, port_from, port_is}

false-true : {A : Type 0} {b : Bool} → b ≡ false → b ≡ true → A
false-true e f = let wrong : false ≡ true = sym e ∙ f in absurd cc

-- what a step comes to, in the relations
abbrev pub Stepped : {S M E : Type 0} → Program S M E → Net → State S M → Event → Result (State S M) StepRefused → Type 0
Stepped program net state event (Ok next) = Steps program net state event next
Stepped program net state event (Err refused) = WhyNot program net state event refused

-- what a step comes to by the two tests of its event
module _ {S M E : Type 0} (program : Program S M E) (net : Net) (state : State S M) where
  abbrev pulse_if : ℕ → Bool → Bool → Result (State S M) StepRefused
  pulse_if v b c = if b then (if c then Ok (after_pulse program net state v (node_of program net state v)) else Err NotReady) else Err NoSuch

  abbrev put_if : ℕ → ℕ → Bool → List (Wire M) → Result (State S M) StepRefused
  put_if v i b out = if b then after_put state v i (node_of program net state v) out else Err NoSuch

  abbrev take_if : ℕ → ℕ → Bool → List (Wire M) → Result (State S M) StepRefused
  take_if v i b held = if b then after_take (last_pulse_on program net) net state v i (node_of program net state v) held else Err NoSuch

module _ {S M E : Type 0} {program : Program S M E} {net : Net} (ok : IsNetwork net) (runs : Runs program net) {state : State S M}
    (kept : NetKept program net state) where
  pulse-stepped : (v : ℕ) (b c : Bool) → is_vertex net v ≡ b → can_pulse (last_pulse_on program net) (node_of program net state v).view ≡ c
      → Stepped program net state (Pulse v) (pulse_if program net state v b c)
  pulse-stepped v true true e f =
      let made = next_pulse ok runs (all_kept ok kept) v (vertex_from net v e) f in
      record {
        possible = (vertex_from net v e, f);
        node = _;
        pulsed = made;
        leads = ap (λ r. record { nodes = set_node state.nodes v (else_old (node_of program net state v) r); links = state.links }) made;
      }
  pulse-stepped v true false e f = inr (vertex_from net v e, λ can. false-true f can, refl)
  pulse-stepped v false c e f = inl (λ vertex. false-true e (vertex_is net v vertex), refl)

  put-stepped : (v i : ℕ) (b : Bool) (l : List (Wire M)) → has_port net v i ≡ b → (port_at (node_of program net state v).view i).out ≡ l
      → Stepped program net state (Put v i) (put_if program net state v i b l)
  put-stepped v i true [] e f = inr (
    port_from net v i e,
    λ lt. let none : length (port_at (node_of program net state v).view i).out ≡ 0 = ap length f in
        omega arith,
    refl,
  )
  put-stepped v i true (w ∷ ws) e f = record { possible = (port_from net v i e, omega (arith, ap length f)); wire = w; rest = ws; oldest = f; leads = refl }
  put-stepped v i false l e f = inl (λ p. false-true e (port_is net v i p.0 p.1), refl)

  take-stepped : (v i : ℕ) (b : Bool) (l : List (Wire M)) → has_port net v i ≡ b → (link_to net state.links v i).held ≡ l
      → Stepped program net state (Take v i) (take_if program net state v i b l)
  take-stepped v i true [] e f =
      let link = link_to net state.links v i in
      inr (
        port_from net v i e,
        λ lt. let sum : length (sent_of link) ≡ length link.taken = ap length (ap (λ l. link.taken ++ l) f ∙ append-nil link.taken) in
            omega arith,
        refl,
      )
  take-stepped v i true (w ∷ ws) e f =
      let link = link_to net state.links v i in
      let node = node_of program net state v in
      let p = port_from net v i e in
      let made = next_reacts ok runs (all_kept ok kept) v i p.0 p.1 w ws (ap (λ l. link.taken ++ l) f) in
      record {
        possible = (p, omega (arith, length-append link.taken link.held, ap length f));
        wire = w;
        rest = ws;
        oldest = f;
        view = _;
        reacted = made;
        leads = ap (λ r. record {
          nodes = set_node state.nodes v record { state = node.state; view = else_old node.view r };
          links = set_link_to net state.links v i record { taken = link.taken ++ (w ∷ []); held = ws };
        }) made;
      }
  take-stepped v i false l e f = inl (λ p. false-true e (port_is net v i p.0 p.1), refl)

  pub stepped : (event : Event) → Stepped program net state event (step program net state event)
  stepped (Pulse v) = pulse-stepped v _ _ refl refl
  stepped (Put v i) = put-stepped v i _ _ refl refl
  stepped (Take v i) = take-stepped v i _ _ refl refl

module _ {S M E : Type 0} (program : Program S M E) (net : Net) (state : State S M) where
  pub steps-step : (event : Event) (next : State S M) → Steps program net state event next → step program net state event ≡ Ok next
  steps-step (Pulse v) next s =
      let node = node_of program net state v in
      ap (λ b. pulse_if program net state v b (can_pulse (last_pulse_on program net) node.view)) (vertex_is net v s.possible.0)
      ∙ ap (λ c. pulse_if program net state v true c) s.possible.1
      ∙ ap (λ r. Ok record { nodes = set_node state.nodes v (else_old node r); links = state.links }) s.pulsed ∙ ap (λ x. Ok x) (sym s.leads)
  steps-step (Put v i) next s =
      ap (λ b. put_if program net state v i b (port_at (node_of program net state v).view i).out) (port_is net v i s.possible.0.0 s.possible.0.1)
      ∙ ap (λ l. put_if program net state v i true l) s.oldest ∙ ap (λ x. Ok x) (sym s.leads)
  steps-step (Take v i) next s =
      let node = node_of program net state v in
      let link = link_to net state.links v i in
      ap (λ b. take_if program net state v i b link.held) (port_is net v i s.possible.0.0 s.possible.0.1)
      ∙ ap (λ l. take_if program net state v i true l) s.oldest
      ∙ ap (λ r. Ok record {
        nodes = set_node state.nodes v record { state = node.state; view = else_old node.view r };
        links = set_link_to net state.links v i record { taken = link.taken ++ (s.wire ∷ []); held = s.rest };
      }) s.reacted
      ∙ ap (λ x. Ok x) (sym s.leads)

  -- an event that isn't possible is refused, and why
  not-there : (event : Event) → (Exists net event → ⊥) → step program net state event ≡ Err NoSuch
  not-there (Pulse v) never =
      ap (λ b. pulse_if program net state v b (can_pulse (last_pulse_on program net) (node_of program net state v).view))
      (false_from_ne_true (is_vertex net v) (λ e. never (vertex_from net v e)))
  not-there (Put v i) never =
      ap (λ b. put_if program net state v i b (port_at (node_of program net state v).view i).out)
      (false_from_ne_true (has_port net v i) (λ e. never (port_from net v i e)))
  not-there (Take v i) never =
      ap (λ b. take_if program net state v i b (link_to net state.links v i).held)
      (false_from_ne_true (has_port net v i) (λ e. never (port_from net v i e)))

  nothing-in : {A : Type 0} (l : List A) → (0 < length l → ⊥) → l ≡ []
  nothing-in [] never = refl
  nothing-in (x ∷ l) never = absurd (never (omega arith))

  not-yet : (event : Event) → Exists net event → (Ready program net state event → ⊥) → step program net state event ≡ Err (not_ready event)
  not-yet (Pulse v) vertex never =
      let node = node_of program net state v in
      ap (λ b. pulse_if program net state v b (can_pulse (last_pulse_on program net) node.view)) (vertex_is net v vertex)
      ∙ ap (λ c. pulse_if program net state v true c) (false_from_ne_true (can_pulse (last_pulse_on program net) node.view) never)
  not-yet (Put v i) there never =
      let node = node_of program net state v in
      ap (λ b. put_if program net state v i b (port_at node.view i).out) (port_is net v i there.0 there.1)
      ∙ ap (λ l. put_if program net state v i true l) (nothing-in (port_at node.view i).out never)
  not-yet (Take v i) there never =
      let link = link_to net state.links v i in
      ap (λ b. take_if program net state v i b link.held) (port_is net v i there.0 there.1)
      ∙ ap (λ l. take_if program net state v i true l) (nothing-in link.held (λ lt. never (omega (arith, length-append link.taken link.held))))

  pub why-step : (event : Event) (refused : StepRefused) → WhyNot program net state event refused → step program net state event ≡ Err refused
  why-step event refused (inl (never, is)) = not-there event never ∙ ap (λ r. Err r) (sym is)
  why-step event refused (inr (there, never, is)) = not-yet event there never ∙ ap (λ r. Err r) (sym is)
