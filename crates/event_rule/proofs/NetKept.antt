-- A state in which every node keeps its links, and what one node's change leaves of it.
use Rattle.std.proofs.Common.{◌≡◌, ℕ, ◌-◌, ◌<◌, true, List, [], ◌++◌, length, get_or, sym, ap, ◌∙◌, arith, subst, ⊎_elim}
use Rattle.std.specs.Prelude.{nat_lt, nat_le}
use Rattle.std.proofs.lemmas.Bool.{cases_eq, and_parts, and_from, ltb-true, leb-true, le-leb, lt-ltb}
use Rattle.std.proofs.lemmas.List.{get_or-set_same, get_or-set_other, length-set}
use Rattle.interference.specs.Net.{Net, IsNetwork, IsVertex, count_of, degree_of}
use Rattle.node_api.specs.Program.{Program}
use Rattle.wires.specs.declared.wire.Wire.{Wire}
use Rattle.alpha_core.specs.View.{Node, port_at}
use Rattle.alpha_core.specs.Program.{start_node}
use Rattle.alpha_laws.specs.Kept.{KeptAt, NodeKept, AllKept}
use Rattle.alpha_laws.proofs.Across.{over}
use Rattle.event_rule.specs.State.{Link, State, sent_of, node_of, link_at, link_to, set_node}
use Rattle.event_rule.specs.Step.{is_vertex, has_port}

pub record NetKept {S M E : Type 0} (program : Program S M E) (net : Net) (state : State S M) : Type 0 where
  pub nodes : length state.nodes ≡ count_of net
  pub rows : length state.links ≡ count_of net
  pub row : (v : ℕ) → IsVertex net v → length (get_or state.links (v - 1) []) ≡ degree_of net v
  pub each : (v : ℕ) → IsVertex net v
      → NodeKept program net v (node_of program net state v) (λ i. sent_of (link_at state.links v i)) (λ i. (link_to net state.links v i).taken)

pub vertex_from : (net : Net) (v : ℕ) → is_vertex net v ≡ true → IsVertex net v
vertex_from net v e = let both = and_parts (nat_le 1 v) (nat_le v (count_of net)) e in (leb-true 1 v both.0, leb-true v (count_of net) both.1)

pub vertex_is : (net : Net) (v : ℕ) → IsVertex net v → is_vertex net v ≡ true
vertex_is net v vertex = and_from _ _ (le-leb 1 v vertex.0) (le-leb v (count_of net) vertex.1)

pub port_from : (net : Net) (v i : ℕ) → has_port net v i ≡ true → IsVertex net v × (i < degree_of net v)
port_from net v i e = let both = and_parts (is_vertex net v) (nat_lt i (degree_of net v)) e in (vertex_from net v both.0, ltb-true i (degree_of net v) both.1)

pub port_is : (net : Net) (v i : ℕ) → IsVertex net v → i < degree_of net v → has_port net v i ≡ true
port_is net v i vertex lt = and_from _ _ (vertex_is net v vertex) (lt-ltb i (degree_of net v) lt)

module _ {S M E : Type 0} (program : Program S M E) (net : Net) where
  pub node_same : {v : ℕ} {node : Node S M} {sent taken : ℕ → List (Wire M)} → NodeKept program net v node sent taken → (sent' taken' : ℕ → List (Wire M))
      → ((i : ℕ) → sent i ≡ sent' i) → ((i : ℕ) → i < degree_of net v → taken i ≡ taken' i) → NodeKept program net v node sent' taken'
  node_same {v} {node} {sent} {taken} kept sent' taken' same same' = record {
    ports = record {
      count = kept.ports.count;
      within = kept.ports.within;
      before_last = kept.ports.before_last;
      each = λ i lt. subst (λ l. KeptAt program net v i node.view.pulse node.view.said (port_at node.view i) (l ++ (port_at node.view i).out) (taken' i))
          (same i)
          (subst (λ l. KeptAt program net v i node.view.pulse node.view.said (port_at node.view i) (sent i ++ (port_at node.view i).out) l) (same' i lt)
          (kept.ports.each i lt));
    };
    spoken = kept.spoken;
    state = kept.state;
  }

module _ {S M E : Type 0} {program : Program S M E} {net : Net} (ok : IsNetwork net) {state : State S M} (kept : NetKept program net state) where
  pub all_kept : AllKept program net (node_of program net state) (λ v i. sent_of (link_at state.links v i)) (λ v i. (link_to net state.links v i).taken)
      (λ v i. (link_at state.links v i).held)
  all_kept = record {
    each = kept.each;
    splits = λ v i vertex lt. ap (λ l. l ++ (link_at state.links v i).held) (over net ok (λ u k. (link_at state.links u k).taken) v i vertex lt);
  }

  -- one node and the links change
  pub node_changes : (v : ℕ) (node : Node S M) (links : List (List (Link M))) → IsVertex net v → length links ≡ length state.links →
      ((a : ℕ) → length (get_or links a []) ≡ length (get_or state.links a []))
      → NodeKept program net v node (λ i. sent_of (link_at links v i)) (λ i. (link_to net links v i).taken)
      → ((u : ℕ) → IsVertex net u → (u ≡ v → ⊥) → (i : ℕ) → sent_of (link_at state.links u i) ≡ sent_of (link_at links u i))
      → ((u : ℕ) → IsVertex net u → (u ≡ v → ⊥) → (i : ℕ) → i < degree_of net u → (link_to net state.links u i).taken ≡ (link_to net links u i).taken)
      → NetKept program net record { nodes = set_node state.nodes v node; links = links }
  node_changes v node links vertex rows row new sent taken = record {
    nodes = length-set state.nodes (v - 1) node ∙ kept.nodes;
    rows = rows ∙ kept.rows;
    row = λ u vertex'. row (u - 1) ∙ kept.row u vertex';
    each = λ u vertex'.
        let P : ℕ → Node S M → Type 0 = λ k n. NodeKept program net k n (λ i. sent_of (link_at links k i)) (λ i. (link_to net links k i).taken) in
        ⊎_elim
        (λ here. subst (λ k. P k (get_or (set_node state.nodes v node) (k - 1) (start_node program net k))) (sym here)
        (subst (λ n. P v n) (sym (get_or-set_same state.nodes (v - 1) node (start_node program net v) (omega (arith, kept.nodes, vertex.0, vertex.1)))) new))
        (λ ne. subst (λ n. P u n) (sym (get_or-set_other state.nodes (v - 1) (u - 1) node (start_node program net u)
        (λ e. ne (omega (arith, e, vertex.0, vertex'.0)))))
        (node_same program net (kept.each u vertex') _ _ (sent u vertex' ne) (taken u vertex' ne)))
        (cases_eq u v);
  }
