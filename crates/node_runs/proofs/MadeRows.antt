-- What is made is what the nodes start with.
use Rattle.std.specs.Prelude.{All, Option}
use Rattle.std.proofs.Common.{◌≡◌, ℕ, zero, suc, ◌-◌, ◌<◌, ◌≤◌, List, [], ◌∷◌, map, get_or, sym, ap, subst, ◌∙◌, arith, Some, slice_get}
use Rattle.std.proofs.lemmas.Option.{same_Some}
use Rattle.atomic_table.specs.Seated.{TableId}
use Rattle.interference.specs.Net.{Net, IsVertex, degree_of, neighbour_of, back_port_of}
use Rattle.link_queue.specs.declared.link.Link.{Link}
use Rattle.link_queue.specs.Ends.{link_capacity}
use Rattle.link_rule.specs.declared.name.LinkName.{LinkName}
use Rattle.wired_nodes.specs.Tables.{IsEndAt, table_of, table_at}
use Rattle.port_rows.specs.Rows.{row_at, thing_at}
use Rattle.node_runs.specs.Makes.{AreMade, tables_of}
use Rattle.node_runs.specs.News.{AreNewAt, AreNewEnds}
use Rattle.node_runs.specs.declared.making.PortEnds.{PortEnds}
use Rattle.node_runs.proofs.Growth.{below, there}

module _ {A B : Type 0} (f : A → B) where
  at_map : (xs : List A) (i : ℕ) (x : A) → slice_get xs i ≡ Some x → slice_get (map f xs) i ≡ Some (f x)
  at_map [] i x is = absurd cc
  at_map (y ∷ ys) zero x is = let same : y ≡ x = cc in ap (λ z. Some (f z)) same
  at_map (y ∷ ys) (suc i) x is = at_map ys i x is

  at_maps : (rows : List (List A)) (k i : ℕ) (x : A) → slice_get (get_or rows k []) i ≡ Some x
      → slice_get (get_or (map (λ row. map f row) rows) k []) i ≡ Some (f x)
  at_maps [] k i x is = absurd cc
  at_maps (row ∷ rows) zero i x is = at_map row i x is
  at_maps (row ∷ rows) (suc k) i x is = at_maps rows k i x is

-- an end of one place is of a place that is the same
pub same_place : (net : Net) (tables : List (List TableId)) (v w i j : ℕ) (table : TableId) (name : Option LinkName) → v ≡ w → i ≡ j
    → IsEndAt net tables w j table name → IsEndAt net tables v i table name
same_place net tables v w i j table name vertex port place =
    subst (λ u. IsEndAt net tables u i table name) (sym vertex) (subst (λ p. IsEndAt net tables w p table name) (sym port) place)

module _ {P T : Type 0} (net : Net) (capacity : ℕ) (links : List (Link P T)) (rows : List (List (PortEnds P T)))
    (made : AreMade net capacity links rows) where
  -- The ends of links that were made are new ends of a run that picks the links' queues. The end that takes is of the link
  -- on which the neighbour puts, so it has the queue of that link's place.
  pub made_are_new : (tables : List (List TableId)) (queues : List TableId) → tables_of rows ≡ tables → map table_of links ≡ queues
      → AreNewEnds net tables queues rows
  made_are_new tables queues picked listed = record {
    shape = made.shape;
    each = λ v vertex. record { long = made.shape.row v vertex; each = λ i ends at. new v vertex i ends at };
  } where
    put_queue : (v i : ℕ) (ends : PortEnds P T) → thing_at rows v i ≡ Some ends → table_at tables v i ≡ Some ends.put.pass.table_id
    put_queue v i ends at = ap (λ t. table_at t v i) (sym picked) ∙ at_maps (λ e. e.put.pass.table_id) rows (v - 1) i ends at

    queue_at : (k : ℕ) (link : Link P T) (id : TableId) → slice_get links k ≡ Some link → id ≡ table_of link → slice_get queues k ≡ Some id
    queue_at k link id at is = ap (λ q. slice_get q k) (sym listed) ∙ at_map table_of links k link at ∙ ap (λ t. Some t) (sym is)

    new : (v : ℕ) → IsVertex net v → (i : ℕ) (ends : PortEnds P T) → thing_at rows v i ≡ Some ends → AreNewAt net tables queues v i ends
    new v vertex i ends at =
        let mine = made.ends.each v i ends vertex at in
        let lt : i < degree_of net v = omega (arith, below (row_at rows v) i ends at, made.shape.row v vertex) in
        let other = made.network.vertices v i vertex lt in
        let far = there (row_at rows (neighbour_of net v i)) (back_port_of net v i)
        (omega (arith, made.network.symmetric v i vertex lt, made.shape.row (neighbour_of net v i) other)) in
        let theirs = made.ends.each (neighbour_of net v i) (back_port_of net v i) far.0 other far.1 in
        let one = same_Some mine.back.0 theirs.out.0
        (sym mine.back.1.0 ∙ ap (slice_get links) (made.ends.joined v i ends far.0 vertex lt at far.1) ∙ theirs.out.1.0) in
        record {
          put_place = record { vertex = vertex.0; queue = put_queue v i ends at; named = mine.out.1.1.named };
          put_link = queue_at ends.put_index mine.out.0 _ mine.out.1.0 mine.out.1.1.of_link.0;
          put = mine.out.1.1.put;
          take_place = record {
            vertex = other.0;
            queue = put_queue (neighbour_of net v i) (back_port_of net v i) far.0 far.1
                ∙ ap (λ t. Some t) (theirs.out.1.1.of_link.0 ∙ ap table_of (sym one) ∙ sym mine.back.1.1.of_link.0);
            named = mine.back.1.1.named;
          };
          take_link = queue_at ends.take_index mine.back.0 _ mine.back.1.0 mine.back.1.1.of_link.0;
          taken = mine.back.1.1.taken;
        }

  -- the links that were made hold no more than they were made for
  pub made_within : All (λ link. link_capacity link ≤ capacity) links
  made_within k d lt = omega (arith, made.ends.capacities k d lt)
