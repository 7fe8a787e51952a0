-- After each prefix of its entries a node stood. By induction on the prefix it kept its links there, since each event
-- keeps them; a take needs that what it took is legal, and that is a prefix of what the node took in the end. A node
-- that keeps its links, and took legal lists, stands.
use Rattle.std.proofs.Common.{◌≡◌, ℕ, ◌<◌, List, [], ◌∷◌, ◌++◌, drop, refl, sym, ap, ◌∙◌, subst}
use Rattle.std.proofs.Common.{Ok, Err}
use Rattle.std.specs.Prelude.{Result, MatchResult}
use Rattle.std.proofs.lemmas.List.{append-nil}
use Rattle.interference.specs.Net.{Net, IsNetwork, IsVertex, degree_of, neighbour_of, port_to}
use Rattle.node_api.specs.Program.{Program, last_pulse_on}
use Rattle.wires.specs.declared.wire.Wire.{Wire}
use Rattle.wires.proofs.Wires.{legal-front}
use Rattle.link_rule.specs.Sent.{IsLegal, sends}
use Rattle.alpha_core.specs.View.{Node, port_at}
use Rattle.alpha_core.specs.Alpha.{put_done, reaction}
use Rattle.alpha_core.specs.Program.{start_node}
use Rattle.alpha_laws.specs.Kept.{NodeKept}
use Rattle.alpha_laws.proofs.NodeLaws.{pulses_keep, puts_keep, starts_keep, takes_keep}
use Rattle.alpha_laws.proofs.Runs.{Runs}
use Rattle.alpha_laws.proofs.Stands.{stands}
use Rattle.entries.specs.declared.entry.Entry.{Entry}
use Rattle.entries.specs.declared.entry.Entry.TheVariants.{Pulse, Put, Take}
use Rattle.wired_nodes.specs.Prefixes.{PrefixesStand}
use Rattle.wired_nodes.specs.Written.{Leads, puts_in, takes_in}
use Rattle.wired_nodes.proofs.Kept.{node_same}
use Rattle.wired_nodes.proofs.Lists.{first_is}
use Rattle.wired_nodes.proofs.Written.{takes_more}
use Rattle.wired_nodes.proofs.ReadFirst.{and_then, longer, one_longer, read_first}

-- the value of a result that is no refusal
accepted : {A B : Type 0} (r : Result A B) (P : A → Type 0) → MatchResult r P (λ _. ⊥) → (x : A) × (r ≡ Ok x) × P x
accepted (Ok x) P is = (x, refl, is)
accepted (Err e) P is = absurd is

module _ {S M E : Type 0} (program : Program S M E) (net : Net) (ok : IsNetwork net) (runs : Runs program net) (v : ℕ) (vertex : IsVertex net v) where
  -- the first entries lead to a node that keeps its links
  record KeptAfter (first after : List (Entry M)) (from to : Node S M) (puts takens : ℕ → List (Wire M)) : Type 0 where
    pub node : Node S M
    pub led : Leads program net v first from node
    pub goes_on : Leads program net v after node to
    pub kept : NodeKept program net v node (and_then net v puts (puts_in first)) (and_then net v takens (takes_in first))

  abbrev AllLegal : (ℕ → List (Wire M)) → Type 0
  AllLegal takens = (i : ℕ) → i < degree_of net v → IsLegal program net (neighbour_of net v i) v (takens i)

  legal_prefix : (i : ℕ) (front rest : List (Wire M)) → IsLegal program net (neighbour_of net v i) v (front ++ rest)
      → IsLegal program net (neighbour_of net v i) v front
  legal_prefix i front rest legal = legal-front (last_pulse_on program net) (sends program net (neighbour_of net v i) v)
      (sends program net v (neighbour_of net v i)) front rest legal

  keeps_on : (first after : List (Entry M)) (from to : Node S M) (puts takens : ℕ → List (Wire M)) → NodeKept program net v from puts takens
      → Leads program net v (first ++ after) from to → AllLegal (and_then net v takens (takes_in (first ++ after)))
      → KeptAfter first after from to puts takens
  keeps_on [] after from to puts takens kept leads legal = record {
    node = from;
    led = refl;
    goes_on = leads;
    kept = node_same program net v from puts takens (λ i. puts i ++ []) (λ i. takens i ++ []) (λ i lt. sym (append-nil (puts i)))
        (λ i lt. sym (append-nil (takens i))) kept;
  }
  keeps_on (Pulse p ∷ first) after from to puts takens kept leads legal =
      let made = pulses_keep program net runs v from puts takens kept vertex leads.0 in
      let more = keeps_on first after made.0 to puts takens made.2
      (subst (λ r. MatchResult r (λ n. Leads program net v (first ++ after) n to) (λ _. ⊥)) made.1 leads.1.1) legal in
      record {
        node = more.node;
        led = (leads.0, (leads.1.0, subst (λ r. MatchResult r (λ n. Leads program net v first n more.node) (λ _. ⊥)) (sym made.1) more.led));
        goes_on = more.goes_on;
        kept = more.kept;
      }
  keeps_on (Put w x ∷ first) after from to puts takens kept leads legal =
      let k = port_to net v w in
      let out = (port_at from.view k).out in
      let next : Node S M = record from { view = put_done from.view k } in
      let kept' = puts_keep program net v k from puts (longer k x puts) takens x (drop 1 out) kept leads.0 (first_is out x leads.1.0) (one_longer k x puts) in
      let more = keeps_on first after next to (longer k x puts) takens kept' leads.1.1 legal in
      record {
        node = more.node;
        led = (leads.0, (leads.1.0, more.led));
        goes_on = more.goes_on;
        kept = node_same program net v more.node (and_then net v (longer k x puts) (puts_in first)) (and_then net v takens (takes_in first))
            (and_then net v puts (puts_in (Put w x ∷ first))) (and_then net v takens (takes_in first))
            (λ i lt. read_first net ok v vertex w x puts (puts_in first (neighbour_of net v i)) leads.0 i lt) (λ i lt. refl) more.kept;
      }
  keeps_on (Take w x ∷ first) after from to puts takens kept leads legal =
      let k = port_to net v w in
      let all = first ++ after in
      let seen = accepted (reaction (last_pulse_on program net) from.view k x) (λ view. Leads program net v all record from { view = view } to) leads.1 in
      let next : Node S M = record from { view = seen.0 } in
      let legal' : AllLegal (and_then net v (longer k x takens) (takes_in all)) = λ i lt.
      subst (λ l. IsLegal program net (neighbour_of net v i) v l)
      (sym (read_first net ok v vertex w x takens (takes_in all (neighbour_of net v i)) leads.0 i lt)) (legal i lt) in
      let taken_k = subst (λ l. IsLegal program net (neighbour_of net v k) v l) ((one_longer k x takens).here)
      (legal_prefix k (longer k x takens k) (takes_in all (neighbour_of net v k)) (legal' k leads.0)) in
      let kept' = takes_keep program net v k from puts takens (longer k x takens) x seen.0 kept leads.0 taken_k seen.1 (one_longer k x takens) in
      let more = keeps_on first after next to puts (longer k x takens) kept' seen.2 legal' in
      record {
        node = more.node;
        led = (
          leads.0,
          subst (λ r. MatchResult r (λ view. Leads program net v first record from { view = view } more.node) (λ _. ⊥)) (sym seen.1) more.led,
        );
        goes_on = more.goes_on;
        kept = node_same program net v more.node (and_then net v puts (puts_in first)) (and_then net v (longer k x takens) (takes_in first))
            (and_then net v puts (puts_in first)) (and_then net v takens (takes_in (Take w x ∷ first))) (λ i lt. refl)
            (λ i lt. read_first net ok v vertex w x takens (takes_in first (neighbour_of net v i)) leads.0 i lt) more.kept;
      }

pub prefixes_stand : {S M E : Type 0} {program : Program S M E} {net : Net} → IsNetwork net → Runs program net → PrefixesStand program net
prefixes_stand {program = program} {net = net} ok runs v node puts takens entries first after vertex standing written is =
    let all_legal : AllLegal program net ok runs v vertex (λ i. takes_in (first ++ after) (neighbour_of net v i)) =
    λ i lt. subst (λ l. IsLegal program net (neighbour_of net v i) v l)
    (sym (written.takes_are i lt) ∙ ap (λ l. takes_in l (neighbour_of net v i)) is) (standing.fits.ports i lt).taken_legal in
    let done = keeps_on program net ok runs v vertex first after (start_node program net v) node (λ i. []) (λ i. [])
    (starts_keep program net runs v vertex)
    (subst (λ l. Leads program net v l (start_node program net v) node) is written.run) all_legal in
    record {
      node = done.node;
      led = done.led;
      goes_on = done.goes_on;
      stood = stands runs vertex done.kept (λ i lt. legal_prefix program net ok runs v vertex i (takes_in first (neighbour_of net v i))
          (takes_in after (neighbour_of net v i))
          (subst (λ l. IsLegal program net (neighbour_of net v i) v l) (takes_more first after (neighbour_of net v i)) (all_legal i lt)));
    }
