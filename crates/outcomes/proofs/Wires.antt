-- What the nodes that were gathered set aside, and what their ends put and took, without stamps: by vertex, and by port.
use Rattle.std.proofs.Common.{◌≡◌, ℕ, ◌-◌, ◌<◌, List, [], ◌++◌, length, map, get_or, sym, ap, ◌∙◌, None, Some}
use Rattle.std.specs.Prelude.{Bool, Option}
use Rattle.std.proofs.Math.Path.{transport}
use Rattle.std.proofs.lemmas.List.{length-map}
use Rattle.std.proofs.lemmas.Simd.{map-map}
use Rattle.interference.specs.Net.{Net, IsVertex, degree_of}
use Rattle.node_api.specs.Program.{Program, last_pulse_on}
use Rattle.wires.specs.declared.stamped.Stamped.{Stamped}
use Rattle.wires.specs.StampedWires.{wires_of}
use Rattle.alpha_core.specs.View.{Alpha}
use Rattle.wires.specs.declared.wire.Wire.{Wire}
use Rattle.wired_nodes.specs.declared.aside.Aside.{Aside}
use Rattle.wired_nodes.specs.Node.{IsAside, by_port, reacted_to}
use Rattle.wired_nodes.specs.Written.{IsTranscript}
use Rattle.entries.specs.declared.rows.StampedEntry.{StampedEntry}
use Rattle.entries.specs.Rows.{bare_of}
use Rattle.outcomes.specs.Outcome.{Outcome, entries_in, held_on, link_in, node_in, put_by}
use Rattle.outcomes.proofs.Whole.{split_wires}
use Rattle.port_rows.proofs.Rows.{get_map, get_field}
use Rattle.outcomes.proofs.Linked.{AreGathered, alpha_is, entries_at, here, put_is, puts_at, puts_here, split_is, takens_at, takens_here}

module _ {S M E A X Y : Type 0} {program : Program S M E} {net : Net} {nodes : List A} {vertex : A → ℕ} {alpha : A → Alpha S M}
    {aside : A → Option (Aside M)} {counter : A → ℕ} {puts : A → List X} {put : X → List (Stamped M)} {takes : A → List Y} {taken : Y → List (Stamped M)}
    {entries : A → List (StampedEntry M)} {crossed : List (List Y)} {transcript : Bool} {outcome : Outcome S M}
    (are : AreGathered program net nodes vertex alpha aside counter puts put takes taken entries crossed transcript outcome) where
  -- what the nodes set aside, and what their ends put and took, without stamps, by vertex
  abbrev pub asides_at : ℕ → Option (Aside M)
  asides_at v = get_or (map aside nodes) (v - 1) None

  abbrev pub sent_at : ℕ → List (List (Wire M))
  sent_at v = map (λ l. wires_of l) (puts_at are v)

  abbrev pub came_at : ℕ → List (List (Wire M))
  came_at v = map (λ l. wires_of l) (takens_at are v)

  pub node_is : (v : ℕ) (is : IsVertex net v) → (alpha (here are v is).0).node ≡ node_in program net outcome v
  node_is v is = ap (λ x. x.node) (sym (alpha_is are v is))

  pub aside_is : (v : ℕ) (is : IsVertex net v) → aside (here are v is).0 ≡ asides_at v
  aside_is v is = sym (get_map aside nodes (v - 1) (here are v is).0 None (here are v is).1)

  pub sent_is : (v : ℕ) (is : IsVertex net v) → map (λ x. wires_of (put x)) (puts (here are v is).0) ≡ sent_at v
  sent_is v is = sym (map-map (λ l. wires_of l) put (puts (here are v is).0)) ∙ ap (map (λ l. wires_of l)) (puts_here are v is)

  pub came_is : (v : ℕ) (is : IsVertex net v) → map (λ y. wires_of (taken y)) (takes (here are v is).0) ≡ came_at v
  came_is v is = sym (map-map (λ l. wires_of l) taken (takes (here are v is).0)) ∙ ap (map (λ l. wires_of l)) (takens_here are v is)

  -- and by port
  pub sent_by : (v i : ℕ) → by_port (sent_at v) i ≡ put_by outcome v i
  sent_by v i = sym (get_field (λ l. wires_of l) (puts_at are v) i []) ∙ ap (λ l. wires_of l) (put_is are v i)

  pub came_by : (v i : ℕ) (ws : List (Stamped M)) → by_port (takens_at are v) i ≡ ws → by_port (came_at v) i ≡ wires_of ws
  came_by v i ws e = sym (get_field (λ l. wires_of l) (takens_at are v) i []) ∙ ap (λ l. wires_of l) e

  pub wires_split : (v i : ℕ) → IsVertex net v → i < degree_of net v → put_by outcome v i ≡ wires_of (link_in outcome v i).taken ++ held_on outcome v i
  wires_split v i is lt = split_wires _ _ _ (split_is are v i is lt)

  -- what a node set aside is the last that its end took
  pub aside_at : (v : ℕ) → IsVertex net v → (x : Aside M) → asides_at v ≡ Some x
      → IsAside (last_pulse_on program net) (node_in program net outcome v).view (came_at v) x
  aside_at v is x e =
      let n = here are v is in
      transport (λ k. IsAside (last_pulse_on program net) (node_is v is k).view (came_is v is k) x) (are.set_aside n.0 x (aside_is v is ∙ e))

  -- there is a list for each port
  pub as_many_ports : (v : ℕ) → IsVertex net v → length (came_at v) ≡ degree_of net v
  as_many_ports v is =
      let n = here are v is in
      ap (λ l. length l) (sym (came_is v is)) ∙ length-map (takes n.0) (λ y. wires_of (taken y)) ∙ are.ins n.0 ∙ ap (λ u. degree_of net u) n.2

  -- and what it wrote down is that to which it reacted
  pub wrote_at : (v : ℕ) → IsVertex net v → IsTranscript program net v transcript (node_in program net outcome v) (by_port (sent_at v))
      (by_port (reacted_to (asides_at v) (came_at v))) (bare_of (entries_in outcome v))
  wrote_at v is =
      let n = here are v is in
      transport (λ k. IsTranscript program net (n.2 k) transcript (node_is v is k) (by_port (sent_is v is k))
      (by_port (reacted_to (aside_is v is k) (came_is v is k))) (bare_of (entries_at are v is k))) (are.writes n.0)
