-- What a node keeps of its links, when its lists are given in another way, and which wires it may put or took.
use Rattle.std.proofs.Common.{◌≡◌, ℕ, ◌<◌, false, List, [], ◌∷◌, ◌++◌, drop, sym, ap, ◌∙◌, subst, append_assoc, ⊎_elim, Some, None, Err, slice_get}
use Rattle.std.specs.Prelude.{Option}
use Rattle.std.proofs.lemmas.Bool.{cases_Bool}
use Rattle.interference.specs.Net.{Net, IsNetwork, IsVertex, degree_of, neighbour_of, back_port_of}
use Rattle.interference.proofs.Neighbours.{at-back_port}
use Rattle.node_api.specs.Program.{Program, last_pulse_on}
use Rattle.wires.specs.declared.wire.Wire.{Wire}
use Rattle.alpha_core.specs.declared.refused.AlphaRefused.{AlphaRefused}
use Rattle.alpha_core.specs.View.{View, Node, port_at}
use Rattle.alpha_core.specs.Table.{is_due, refusal_of}
use Rattle.alpha_core.specs.Alpha.{reaction, reacts, unless_refused}
use Rattle.link_rule.specs.Sent.{IsLegal, sends}
use Rattle.alpha_core.proofs.Due.{due-taken}
use Rattle.wires.proofs.Wires.{legal-front}
use Rattle.alpha_laws.specs.Kept.{KeptAt, NodeKept}
use Rattle.alpha_laws.proofs.Lawful.{legal_emitted}
use Rattle.link_rule.specs.declared.name.LinkName.{LinkName}
use Rattle.link_rule.specs.Legal.{IsLegalOn, LegalFor, name_of}
use Rattle.wired_nodes.proofs.Lists.{first_is}

-- a wire that a node refuses isn't due
not_refused : {A : Type 0} (o : Option AlphaRefused) (x : A) (e : AlphaRefused) → o ≡ None → unless_refused o x ≡ Err e → ⊥
not_refused None x e none is = cc
not_refused (Some r) x e none is = absurd cc

pub not_due : {M : Type 0} (last : ℕ) (view : View M) (i : ℕ) (w : Wire M) (e : AlphaRefused) → reaction last view i w ≡ Err e
    → is_due last view.pulse view.said (port_at view i) w ≡ false
not_due last view i w e is = ⊎_elim
    (λ due. absurd (not_refused (refusal_of last view.pulse view.said (port_at view i) w) (reacts last view i w) e
    (due-taken last view.pulse view.said (port_at view i) w due) is))
    (λ not. not)
    (cases_Bool (is_due last view.pulse view.said (port_at view i) w))

module _ {S M R : Type 0} (program : Program S M R) (net : Net) where
  -- the lists are the same, port by port
  pub node_same : (v : ℕ) (node : Node S M) (sent taken sent' taken' : ℕ → List (Wire M)) → ((i : ℕ) → i < degree_of net v → sent i ≡ sent' i)
      → ((i : ℕ) → i < degree_of net v → taken i ≡ taken' i) → NodeKept program net v node sent taken → NodeKept program net v node sent' taken'
  node_same v node sent taken sent' taken' puts takes kept = record {
    ports = record {
      count = kept.ports.count;
      within = kept.ports.within;
      before_last = kept.ports.before_last;
      each = λ i lt. subst (λ l. KeptAt program net v i node.view.pulse node.view.said (port_at node.view i) (l ++ (port_at node.view i).out) (taken' i))
          (puts i lt)
          (subst (λ l. KeptAt program net v i node.view.pulse node.view.said (port_at node.view i) (sent i ++ (port_at node.view i).out) l) (takes i lt)
          (kept.ports.each i lt));
    };
    spoken = kept.spoken;
    state = kept.state;
  }

  -- the oldest wire of an out-list may be put
  pub may_put : (v i : ℕ) (node : Node S M) (sent taken : ℕ → List (Wire M)) (w : Wire M) → NodeKept program net v node sent taken → i < degree_of net v
      → slice_get (port_at node.view i).out 0 ≡ Some w → IsLegal program net v (neighbour_of net v i) (sent i ++ (w ∷ []))
  may_put v i node sent taken w kept lt oldest =
      let out = (port_at node.view i).out in
      let last = last_pulse_on program net in
      let own = sends program net v (neighbour_of net v i) in
      let other = sends program net (neighbour_of net v i) v in
      let all = ap (λ l. sent i ++ l) (first_is out w oldest) ∙ sym (append_assoc (sent i) (w ∷ []) (drop 1 out)) in
      legal-front last own other (sent i ++ (w ∷ [])) (drop 1 out) (subst (λ l. IsLegal program net v (neighbour_of net v i) l) all
      (legal_emitted (kept.ports.each i lt)))

  -- what is legal on the link out of v by port i is so for whatever has its name
  pub legal_by_name : (v i a b : ℕ) (name : Option LinkName) (ws : List (Wire M)) → name ≡ Some (name_of net a b) → ◌≡◌ {A = ℕ × ℕ} (a, b) (v, i)
      → IsLegal program net v (neighbour_of net v i) ws → LegalFor (IsLegalOn program) name ws
  legal_by_name v i a b name ws named at legal n is =
      let place : name_of net v i ≡ n = some_same (ap (λ (p : ℕ × ℕ). Some (name_of net p.0 p.1)) (sym at) ∙ sym named ∙ is) in
      subst (λ k. IsLegalOn program k ws) place legal
    where
      some_same : {A : Type 0} {x y : A} → Some x ≡ Some y → x ≡ y
      some_same e = cc

  -- and what is legal by the name of the link that comes to v by port i
  pub legal_of_name : IsNetwork net → (v i a b : ℕ) (name : Option LinkName) (ws : List (Wire M)) → IsVertex net v → i < degree_of net v
      → name ≡ Some (name_of net a b) → ◌≡◌ {A = ℕ × ℕ} (a, b) (neighbour_of net v i, back_port_of net v i) → LegalFor (IsLegalOn program) name ws
      → IsLegal program net (neighbour_of net v i) v ws
  legal_of_name ok v i a b name ws vertex lt named at legal =
      subst (λ u. IsLegal program net (neighbour_of net v i) u ws) (at-back_port net ok v i vertex lt)
      (subst (λ (p : ℕ × ℕ). IsLegal program net p.0 (neighbour_of net p.0 p.1) ws) at (legal (name_of net a b) named))
