-- What nodes that were gathered say of themselves and of their ends, and what was made of them and of their links. What the links say
-- was put and taken, by vertex and port, is what the ends of the nodes said.
use Rattle.std.proofs.Common.{◌≡◌, ℕ, ◌-◌, ◌<◌, List, [], ◌++◌, length, map, get_or, sym, ap, ◌∙◌, arith, Some, slice_get}
use Rattle.std.specs.Prelude.{All, Bool, Option}
use Rattle.std.proofs.lemmas.List.{length-map}
use Rattle.interference.specs.Net.{Net, IsNetwork, IsVertex, degree_of, neighbour_of, back_port_of, vertices}
use Rattle.node_api.specs.Program.{Program, last_pulse_on}
use Rattle.node_api.specs.Laws.{IsProgram}
use Rattle.alpha_laws.specs.Kept.{NodeKept}
use Rattle.alpha_laws.proofs.Across.{over}
use Rattle.wires.specs.declared.stamped.Stamped.{Stamped}
use Rattle.wires.specs.StampedWires.{wires_of}
use Rattle.alpha_core.specs.View.{Alpha}
use Rattle.wired_nodes.specs.declared.aside.Aside.{Aside}
use Rattle.wired_nodes.specs.HasStamps.{HasStamps}
use Rattle.wired_nodes.specs.Node.{IsAside, by_port, reacted_to}
use Rattle.wired_nodes.specs.Written.{IsTranscript}
use Rattle.entries.specs.declared.rows.StampedEntry.{StampedEntry}
use Rattle.entries.specs.Rows.{bare_of}
use Rattle.pool.proofs.Views.{as_many}
use Rattle.outcomes.specs.Outcome.{Outcome, alpha_in, entries_in, link_in, link_into, no_history, row_in, start_of}
use Rattle.port_rows.specs.Rows.{AreCrossed, row_at}
use Rattle.port_rows.proofs.Rows.{some_there, get_map, row_map, get_field, node_of, length-nodes}

pub record AreGathered {S M E A X Y : Type 0} (program : Program S M E) (net : Net) (nodes : List A) (vertex : A → ℕ) (alpha : A → Alpha S M)
    (aside : A → Option (Aside M)) (counter : A → ℕ) (puts : A → List X) (put : X → List (Stamped M)) (takes : A → List Y) (taken : Y → List (Stamped M))
    (entries : A → List (StampedEntry M)) (crossed : List (List Y)) (transcript : Bool) (outcome : Outcome S M) : Type 0 where
  pub laws : IsProgram program
  pub network : IsNetwork net
  pub last : (a : A) → (alpha a).last ≡ last_pulse_on program net
  pub keeps : (a : A) → NodeKept program net (vertex a) (alpha a).node (by_port (map (λ x. wires_of (put x)) (puts a)))
      (by_port (reacted_to (aside a) (map (λ y. wires_of (taken y)) (takes a))))
  pub set_aside : (a : A) (x : Aside M) → aside a ≡ Some x
      → IsAside (last_pulse_on program net) (alpha a).node.view (map (λ y. wires_of (taken y)) (takes a)) x
  pub writes : (a : A) → IsTranscript program net (vertex a) transcript (alpha a).node (by_port (map (λ x. wires_of (put x)) (puts a)))
      (by_port (reacted_to (aside a) (map (λ y. wires_of (taken y)) (takes a)))) (bare_of (entries a))
  pub stamps : (a : A) → HasStamps net (vertex a) transcript (counter a) (by_port (map put (puts a))) (by_port (map taken (takes a))) (entries a)
  pub outs : (a : A) → length (puts a) ≡ degree_of net (vertex a)
  pub ins : (a : A) → length (takes a) ≡ degree_of net (vertex a)
  pub order : map vertex nodes ≡ vertices net
  pub crosses : AreCrossed net (map takes nodes) crossed
  pub vertices_are : map (λ g. g.vertex) outcome.nodes ≡ map vertex nodes
  pub alphas_are : map (λ g. g.alpha) outcome.nodes ≡ map alpha nodes
  pub entries_are : map (λ g. g.entries) outcome.nodes ≡ map entries nodes
  pub puts_are : map (λ row. map (λ h. h.put) row) outcome.links ≡ map (λ a. map put (puts a)) nodes
  pub takens_are : map (λ row. map (λ h. h.taken) row) outcome.links ≡ map (λ row. map taken row) crossed
  pub splits : All (λ row. All (λ h. h.put ≡ h.taken ++ h.held) row) outcome.links

module _ {S M E A X Y : Type 0} {program : Program S M E} {net : Net} {nodes : List A} {vertex : A → ℕ} {alpha : A → Alpha S M}
    {aside : A → Option (Aside M)} {counter : A → ℕ} {puts : A → List X} {put : X → List (Stamped M)} {takes : A → List Y} {taken : Y → List (Stamped M)}
    {entries : A → List (StampedEntry M)} {crossed : List (List Y)} {transcript : Bool} {outcome : Outcome S M}
    (are : AreGathered program net nodes vertex alpha aside counter puts put takes taken entries crossed transcript outcome) where
  -- what the ends of the nodes put and took, by vertex
  abbrev pub puts_at : ℕ → List (List (Stamped M))
  puts_at v = get_or (map (λ a. map put (puts a)) nodes) (v - 1) []

  abbrev pub takens_at : ℕ → List (List (Stamped M))
  takens_at v = get_or (map (λ a. map taken (takes a)) nodes) (v - 1) []

  -- the node of a vertex, and what it says
  pub here : (v : ℕ) → IsVertex net v → (a : A) × (slice_get nodes (v - 1) ≡ Some a) × (vertex a ≡ v)
  here v is = node_of net vertex nodes are.order v is

  pub alpha_is : (v : ℕ) (is : IsVertex net v) → alpha_in program net outcome v ≡ alpha (here v is).0
  alpha_is v is = ap (λ l. get_or l (v - 1) (start_of program net v)) are.alphas_are
      ∙ get_map alpha nodes (v - 1) (here v is).0 (start_of program net v) (here v is).1

  pub entries_at : (v : ℕ) (is : IsVertex net v) → entries (here v is).0 ≡ entries_in outcome v
  entries_at v is =
      sym (ap (λ l. get_or l (v - 1) []) are.entries_are ∙ get_map entries nodes (v - 1) (here v is).0 [] (here v is).1)

  pub puts_here : (v : ℕ) (is : IsVertex net v) → map put (puts (here v is).0) ≡ puts_at v
  puts_here v is = sym (get_map (λ a. map put (puts a)) nodes (v - 1) (here v is).0 [] (here v is).1)

  pub takens_here : (v : ℕ) (is : IsVertex net v) → map taken (takes (here v is).0) ≡ takens_at v
  takens_here v is = sym (get_map (λ a. map taken (takes a)) nodes (v - 1) (here v is).0 [] (here v is).1)

  -- what was put on a link is what the end put
  pub put_is : (v i : ℕ) → by_port (puts_at v) i ≡ (link_in outcome v i).put
  put_is v i =
      ap (λ rows. get_or (get_or rows (v - 1) []) i []) (sym are.puts_are)
      ∙ ap (λ row. get_or row i []) (row_map (λ h. h.put) outcome.links (v - 1))
      ∙ sym (get_field (λ h. h.put) (row_in outcome v) i no_history)

  pub row_long : (v : ℕ) → IsVertex net v → length (row_in outcome v) ≡ degree_of net v
  row_long v is =
      let n = here v is in
      sym (length-map (row_in outcome v) (λ h. h.put)) ∙ ap (λ l. length l) (sym (row_map (λ h. h.put) outcome.links (v - 1))
      ∙ ap (λ rows. get_or rows (v - 1) []) are.puts_are ∙ sym (puts_here v is))
      ∙ length-map (puts n.0) put ∙ are.outs n.0 ∙ ap (λ u. degree_of net u) n.2

  pub many : length outcome.links ≡ length nodes
  many = as_many (λ a. map put (puts a)) (λ row. map (λ h. h.put) row) nodes outcome.links are.puts_are

  -- the row of a vertex is there
  pub row_there : (v : ℕ) → IsVertex net v → v - 1 < length outcome.links
  row_there v is = omega (arith, is.0, is.1, many, length-nodes net vertex nodes are.order)

  -- what was taken from it is what the end took that was made with the link
  pub taken_is : (v i : ℕ) → IsVertex net v → i < degree_of net v
      → (link_in outcome v i).taken ≡ by_port (takens_at (neighbour_of net v i)) (back_port_of net v i)
  taken_is v i is lt =
      let w = neighbour_of net v i in
      let j = back_port_of net v i in
      let n = here w (are.network.vertices v i is lt) in
      let there = some_there (row_at crossed v) i (omega (arith, lt, are.crosses.shape.row v is)) in
      let at : slice_get (takes n.0) j ≡ Some there.0 =
      ap (λ l. slice_get l j) (sym (get_map takes nodes (w - 1) n.0 [] n.1)) ∙ sym (are.crosses.at v i is lt) ∙ there.1 in
      get_field (λ h. h.taken) (row_in outcome v) i no_history
      ∙ ap (λ row. get_or row i []) (sym (row_map (λ h. h.taken) outcome.links (v - 1)))
      ∙ ap (λ rows. get_or (get_or rows (v - 1) []) i []) are.takens_are
      ∙ ap (λ row. get_or row i []) (row_map taken crossed (v - 1))
      ∙ get_map taken (row_at crossed v) i there.0 [] there.1
      ∙ sym (get_map taken (takes n.0) j there.0 [] at) ∙ ap (λ l. get_or l j []) (takens_here w (are.network.vertices v i is lt))

  -- what the end of a port took is what was taken from the link that comes there
  pub taken_here : (v : ℕ) → IsVertex net v → (i : ℕ) → i < degree_of net v → by_port (takens_at v) i ≡ (link_into net outcome v i).taken
  taken_here v is i lt =
      sym (taken_is (neighbour_of net v i) (back_port_of net v i) (are.network.vertices v i is lt) (are.network.symmetric v i is lt)
      ∙ over net are.network (λ w j. by_port (takens_at w) j) v i is lt)

  pub split_is : (v i : ℕ) → IsVertex net v → i < degree_of net v
      → (link_in outcome v i).put ≡ (link_in outcome v i).taken ++ (link_in outcome v i).held
  split_is v i is lt = are.splits (v - 1) [] (row_there v is) i no_history (omega (arith, lt, row_long v is))
