-- The links of one edge more, with their ends.
--
-- The plan: a thing of the new rows is one of the old rows, or one of the two that were pushed; where these are, Before.antt
-- says. So the ports that have ends are those of one edge more, old ends stay what they were, since the list of links only
-- grew, and the two new ends that put and take on a link belong together.
use Rattle.std.proofs.Common.{◌≡◌, ◌⊎◌, inl, inr, ⊎_elim, ℕ, zero, suc, ◌+◌, ◌-◌, ◌<◌, ◌≤◌, List, [], ◌∷◌, ◌++◌, length, refl, sym, ap}
use Rattle.std.proofs.Common.{subst, ◌∙◌, arith, Some, slice_get}
use Rattle.std.specs.Prelude.{◌↔◌}
use Rattle.std.proofs.lemmas.Bool.{cases_eq, cases_lt}
use Rattle.std.proofs.lemmas.List.{get_or-set_same, get_or-set_other, length-append, length-set, length_push}
use Rattle.interference.specs.Net.{Net, IsNetwork, IsVertex, back_port_of, count_of, degree_of, neighbour_of}
use Rattle.link_queue.specs.declared.link.Link.{Link}
use Rattle.link_rule.specs.Legal.{name_of}
use Rattle.link_queue.specs.Ends.{IsNewPutEnd, IsNewTakeEnd, link_capacity}
use Rattle.port_rows.specs.Rows.{row_at, thing_at}
use Rattle.node_runs.specs.Makes.{AreEndsAt, AreMade, AreMadeBefore, HasEndBefore, row_more}
use Rattle.node_runs.specs.declared.making.PortEnds.{PortEnds}
use Rattle.node_runs.proofs.Before.{back-port, back-vertex, ends-there, last-port, made-before, more-end_before, next-vertex}
use Rattle.node_runs.proofs.Before.{none-before, other-length, own-length, split-end_before}
use Rattle.node_runs.proofs.Growth.{all_more, all_none, below, pushed}

-- a row that grew, and the others
module _ {A : Type 0} (rows : List (List A)) (v : ℕ) (x : A) where
  pub row_here : 1 ≤ v → v ≤ length rows → row_at (row_more rows v x) v ≡ row_at rows v ++ x ∷ []
  row_here low le = get_or-set_same rows (v - 1) (row_at rows v ++ x ∷ []) [] (omega (arith, low, le))

  pub row_other : (u : ℕ) → 1 ≤ u → 1 ≤ v → (u ≡ v → ⊥) → row_at (row_more rows v x) u ≡ row_at rows u
  row_other u low low' ne = get_or-set_other rows (v - 1) (u - 1) (row_at rows v ++ x ∷ []) [] (λ e. ne (omega (arith, e, low, low')))

-- what a list holds, it holds when it grew
grown : {A : Type 0} (xs ys : List A) (k : ℕ) (x : A) → slice_get xs k ≡ Some x → slice_get (xs ++ ys) k ≡ Some x
grown [] ys k x at = absurd cc
grown (y ∷ xs) ys zero x at = at
grown (y ∷ xs) ys (suc k) x at = grown xs ys k x at

-- the two things that were pushed last
first-there : {A : Type 0} (xs : List A) (a : A) (ys : List A) → slice_get (xs ++ a ∷ ys) (length xs) ≡ Some a
first-there [] a ys = refl
first-there (x ∷ xs) a ys = first-there xs a ys

second-there : {A : Type 0} (xs : List A) (a b : A) → slice_get (xs ++ a ∷ b ∷ []) (suc (length xs)) ≡ Some b
second-there [] a b = refl
second-there (x ∷ xs) a b = second-there xs a b

module _ {P T : Type 0} (net : Net) (capacity : ℕ) where
  ends-grown : (links new : List (Link P T)) (more : List (Link P T)) (v i : ℕ) (ends : PortEnds P T) → new ≡ links ++ more
      → AreEndsAt net capacity links v i ends → AreEndsAt net capacity new v i ends
  ends-grown links new more v i ends is at = record {
    out = (at.out.0, (ap (λ l. slice_get l ends.put_index) is ∙ grown links more ends.put_index at.out.0 at.out.1.0, at.out.1.1));
    back = (at.back.0, (ap (λ l. slice_get l ends.take_index) is ∙ grown links more ends.take_index at.back.0 at.back.1.0, at.back.1.1));
  }

  -- the edge at port i of v, which leads to a greater vertex
  module _ (ok : IsNetwork net) (v i : ℕ) (vertex : IsVertex net v) (lt : i < degree_of net v) (greater : v < neighbour_of net v i)
      (links new : List (Link P T)) (rows : List (List (PortEnds P T))) (out back : Link P T) (x y : PortEnds P T)
      (more : new ≡ links ++ out ∷ back ∷ []) (so_far : AreMadeBefore net capacity v i links rows)
      (of_capacity : (link_capacity out ≡ capacity) × (link_capacity back ≡ capacity))
      (new_x : AreEndsAt net capacity new v i x) (new_y : AreEndsAt net capacity new (neighbour_of net v i) (back_port_of net v i) y)
      (one_link : (x.take_index ≡ y.put_index) × (y.take_index ≡ x.put_index)) where
    abbrev w : ℕ
    w = neighbour_of net v i

    abbrev j : ℕ
    j = back_port_of net v i

    abbrev all : List (List (PortEnds P T))
    all = row_more (row_more rows v x) w y

    w-vertex : IsVertex net w
    w-vertex = ok.vertices v i vertex lt

    own : length (row_at rows v) ≡ i
    own = own-length net ok v i vertex lt greater (λ u. length (row_at rows u)) so_far.there

    other : length (row_at rows w) ≡ j
    other = other-length net ok v i vertex lt greater (λ u. length (row_at rows u)) so_far.there

    -- the rows of v, of w, and of all others
    at_v : row_at all v ≡ row_at rows v ++ x ∷ []
    at_v = row_other (row_more rows v x) w y v vertex.0 w-vertex.0 (λ e. omega (arith, e, greater))
        ∙ row_here rows v x vertex.0 (omega (arith, vertex.1, so_far.count))

    at_w : row_at all w ≡ row_at rows w ++ y ∷ []
    at_w =
        row_here (row_more rows v x) w y w-vertex.0
        (omega (arith, w-vertex.1, so_far.count, length-set rows (v - 1) (row_at rows v ++ x ∷ [])))
        ∙ ap (λ l. l ++ y ∷ []) (row_other rows v x w w-vertex.0 vertex.0 (λ e. omega (arith, e, greater)))

    at_else : (u : ℕ) → 1 ≤ u → (u ≡ v → ⊥) → (u ≡ w → ⊥) → row_at all u ≡ row_at rows u
    at_else u low not_v not_w = row_other (row_more rows v x) w y u low w-vertex.0 not_w ∙ row_other rows v x u low vertex.0 not_v

    -- what a place of the new rows holds
    found : (u p : ℕ) (e : PortEnds P T) → IsVertex net u → thing_at all u p ≡ Some e
        → (thing_at rows u p ≡ Some e) ⊎ (((u ≡ v) × ((p ≡ i) × (x ≡ e))) ⊎ ((u ≡ w) × ((p ≡ j) × (y ≡ e))))
    found u p e in_net at = ⊎_elim
        (λ is_v. ⊎_elim (λ old. inl (ap (λ k. thing_at rows k p) is_v ∙ old)) (λ here. inr (inl (is_v, (here.0 ∙ own, here.1))))
        (pushed (row_at rows v) x p e (sym (ap (λ l. slice_get l p) (ap (row_at all) is_v ∙ at_v)) ∙ at)))
        (λ not_v. ⊎_elim
        (λ is_w. ⊎_elim (λ old. inl (ap (λ k. thing_at rows k p) is_w ∙ old)) (λ here. inr (inr (is_w, (here.0 ∙ other, here.1))))
        (pushed (row_at rows w) y p e (sym (ap (λ l. slice_get l p) (ap (row_at all) is_w ∙ at_w)) ∙ at)))
        (λ not_w. inl (sym (ap (λ l. slice_get l p) (at_else u in_net.0 not_v not_w)) ∙ at))
        (cases_eq u w))
        (cases_eq u v)

    -- nothing was there before
    none_v : (e : PortEnds P T) → thing_at rows v i ≡ Some e → ⊥
    none_v e at = let there : i < length (row_at rows v) = below (row_at rows v) i e at in omega (arith, there, own)

    none_w : (e : PortEnds P T) → thing_at rows w j ≡ Some e → ⊥
    none_w e at = let there : j < length (row_at rows w) = below (row_at rows w) j e at in omega (arith, there, other)

    length_v : length (row_at all v) ≡ i + 1
    length_v = ap length at_v ∙ omega (arith, length_push (row_at rows v) x, own)

    length_w : length (row_at all w) ≡ j + 1
    length_w = ap length at_w ∙ omega (arith, length_push (row_at rows w) y, other)

    -- how long the row of a vertex is
    is_long : (u : ℕ) → IsVertex net u
        → ((u ≡ v) × (length (row_at all u) ≡ i + 1)) ⊎ (((u ≡ w) × (length (row_at all u) ≡ j + 1)) ⊎ (length (row_at all u) ≡ length (row_at rows u)))
    is_long u in_net = ⊎_elim (λ is_v. inl (is_v, ap (λ k. length (row_at all k)) is_v ∙ length_v))
        (λ not_v. ⊎_elim (λ is_w. inr (inl (is_w, ap (λ k. length (row_at all k)) is_w ∙ length_w)))
        (λ not_w. inr (inr (ap length (at_else u in_net.0 not_v not_w))))
        (cases_eq u w))
        (cases_eq u v)

    back_there : (neighbour_of net w j ≡ v) × (back_port_of net w j ≡ i)
    back_there = (back-vertex net ok v i vertex lt, back-port net ok v i vertex lt)

    not_less : (u p : ℕ) → IsVertex net u → p < length (row_at rows u) → p < length (row_at all u)
    not_less u p in_net lt' = ⊎_elim
        (λ at. let is = ap (λ k. length (row_at rows k)) at.0 in omega (arith, at.1, is, own, lt'))
        (⊎_elim (λ at. let is = ap (λ k. length (row_at rows k)) at.0 in omega (arith, at.1, is, other, lt'))
        (λ same. omega (arith, same, lt')))
        (is_long u in_net)

    now_there : (u p : ℕ) → IsVertex net u → p < degree_of net u → (p < length (row_at all u)) ↔ HasEndBefore net u p v (i + 1)
    now_there u p in_net in_row = (
      λ lt'. ⊎_elim
          (λ at. ⊎_elim (λ is. inl (inr (at.0, omega (arith, is))))
          (λ ne. more-end_before net u p v i ((so_far.there u p in_net in_row).0
          (let is = ap (λ k. length (row_at rows k)) at.0 in omega (arith, is, own, at.1, lt', ne))))
          (cases_eq p i))
          (⊎_elim
          (λ at. ⊎_elim
          (λ is. inr (inr (
            ap (λ k. neighbour_of net k p) at.0 ∙ ap (neighbour_of net w) is ∙ back_there.0,
            let same = ap (λ k. back_port_of net k p) at.0 ∙ ap (back_port_of net w) is ∙ back_there.1 in omega (arith, same),
          )))
          (λ ne. more-end_before net u p v i ((so_far.there u p in_net in_row).0
          (let is = ap (λ k. length (row_at rows k)) at.0 in omega (arith, is, other, at.1, lt', ne))))
          (cases_eq p j))
          (λ same. more-end_before net u p v i ((so_far.there u p in_net in_row).0 (omega (arith, same, lt')))))
          (is_long u in_net),
      λ has. ⊎_elim (λ old. not_less u p in_net ((so_far.there u p in_net in_row).1 old))
          (⊎_elim (λ at. let is = ap (λ k. length (row_at all k)) at.0 in omega (arith, is, length_v, at.1))
          (λ at. let here = ends-there net ok v i vertex lt u p in_net in_row at.0 at.1 in
          let is = ap (λ k. length (row_at all k)) here.0 in omega (arith, is, length_w, here.1)))
          (split-end_before net u p v i has),
    )

    now_joined : (u p : ℕ) (e o : PortEnds P T) → IsVertex net u → p < degree_of net u → thing_at all u p ≡ Some e
        → thing_at all (neighbour_of net u p) (back_port_of net u p) ≡ Some o → e.take_index ≡ o.put_index
    now_joined u p e o in_net in_row at at' =
        let across = ok.vertices u p in_net in_row in
        let far = found (neighbour_of net u p) (back_port_of net u p) o across at' in
        ⊎_elim
        (λ old. ⊎_elim (λ old'. so_far.ends.joined u p e o in_net in_row old old')
        (⊎_elim
        (λ is. let here = ends-there net ok v i vertex lt u p in_net in_row is.0 is.1.0 in
        absurd (none_w e (sym (ap (λ k. thing_at rows k p) here.0 ∙ ap (thing_at rows w) here.1) ∙ old)))
        (λ is. let here = ends-there net ok w j w-vertex (ok.symmetric v i vertex lt) u p in_net in_row is.0 is.1.0 in
        absurd (none_v e (sym (ap (λ k. thing_at rows k p) (here.0 ∙ back_there.0) ∙ ap (thing_at rows v) (here.1 ∙ back_there.1)) ∙ old))))
        far)
        (⊎_elim
        (λ is. let to_w = ap (λ k. neighbour_of net k p) is.0 ∙ ap (neighbour_of net v) is.1.0 in
        let to_j = ap (λ k. back_port_of net k p) is.0 ∙ ap (back_port_of net v) is.1.0 in
        ⊎_elim
        (λ old'. absurd (none_w o (sym (ap (λ k. thing_at rows k (back_port_of net u p)) to_w ∙ ap (thing_at rows w) to_j) ∙ old')))
        (⊎_elim (λ is'. absurd (omega (arith, is'.0, to_w, greater)))
        (λ is'. ap (λ z. z.take_index) (sym is.1.1) ∙ one_link.0 ∙ ap (λ z. z.put_index) is'.1.1))
        far)
        (λ is. let to_v = ap (λ k. neighbour_of net k p) is.0 ∙ ap (neighbour_of net w) is.1.0 ∙ back_there.0 in
        let to_i = ap (λ k. back_port_of net k p) is.0 ∙ ap (back_port_of net w) is.1.0 ∙ back_there.1 in
        ⊎_elim
        (λ old'. absurd (none_v o (sym (ap (λ k. thing_at rows k (back_port_of net u p)) to_v ∙ ap (thing_at rows v) to_i) ∙ old')))
        (⊎_elim (λ is'. ap (λ z. z.take_index) (sym is.1.1) ∙ one_link.1 ∙ ap (λ z. z.put_index) is'.1.1)
        (λ is'. absurd (omega (arith, is'.0, to_v, greater))))
        far))
        (found u p e in_net at)

    now_each : (u p : ℕ) (e : PortEnds P T) → IsVertex net u → thing_at all u p ≡ Some e → AreEndsAt net capacity new u p e
    now_each u p e in_net at = ⊎_elim
        (λ old. ends-grown links new (out ∷ back ∷ []) u p e more (so_far.ends.each u p e in_net old))
        (⊎_elim
        (λ is. subst (λ k. AreEndsAt net capacity new k p e) (sym is.0)
        (subst (λ k. AreEndsAt net capacity new v k e) (sym is.1.0) (subst (AreEndsAt net capacity new v i) is.1.1 new_x)))
        (λ is. subst (λ k. AreEndsAt net capacity new k p e) (sym is.0)
        (subst (λ k. AreEndsAt net capacity new w k e) (sym is.1.0) (subst (AreEndsAt net capacity new w j) is.1.1 new_y))))
        (found u p e in_net at)

    pub edge-made : AreMadeBefore net capacity v (i + 1) new all
    edge-made = record {
      ends = record {
        capacities = all_more (λ link. link_capacity link ≡ capacity) (links ++ out ∷ []) new back (more ∙ moved links)
            (all_more (λ link. link_capacity link ≡ capacity) links (links ++ out ∷ []) out refl so_far.ends.capacities of_capacity.0) of_capacity.1;
        each = now_each;
        joined = now_joined;
      };
      count = length-set (row_more rows v x) (w - 1) _ ∙ length-set rows (v - 1) _ ∙ so_far.count;
      few = omega (arith, ap length more, length-append links (out ∷ back ∷ []), so_far.few);
      shorter = λ u in_net. ⊎_elim (λ at. omega (arith, ap (degree_of net) at.0, at.1, lt))
          (⊎_elim (λ at. omega (arith, ap (degree_of net) at.0, at.1, ok.symmetric v i vertex lt))
          (λ same. omega (arith, same, so_far.shorter u in_net)))
          (is_long u in_net);
      there = now_there;
    } where
      moved : (l : List (Link P T)) → l ++ out ∷ back ∷ [] ≡ (l ++ out ∷ []) ++ back ∷ []
      moved [] = refl
      moved (z ∷ l) = ap (λ k. z ∷ k) (moved l)

  -- the two links of an edge and their ends, as they are pushed one after the other
  pub edge-pushed : (ok : IsNetwork net) (v i w j : ℕ) → IsVertex net v → i < degree_of net v → v < neighbour_of net v i → w ≡ neighbour_of net v i
      → j ≡ back_port_of net v i → {links one two : List (Link P T)} {rows first second : List (List (PortEnds P T))} (out back : Link P T) {x y : PortEnds P T}
      → AreMadeBefore net capacity v i links rows → one ≡ links ++ out ∷ [] → two ≡ one ++ back ∷ [] → first ≡ row_more rows v x → second ≡ row_more first w y
      → x.put_index ≡ length links → x.take_index ≡ x.put_index + 1 → (y.put_index ≡ x.take_index) × (y.take_index ≡ x.put_index)
      → (link_capacity out ≡ capacity) × (link_capacity back ≡ capacity)
      → IsNewPutEnd out x.put (name_of net v i) → IsNewTakeEnd out y.take (name_of net v i)
      → IsNewPutEnd back y.put (name_of net w j) → IsNewTakeEnd back x.take (name_of net w j) → AreMadeBefore net capacity v (i + 1) two second
  edge-pushed ok v i w j vertex lt greater at_w at_j {links} {one} {two} {rows} {first} {second} out back {x} {y} so_far one_more two_more first_more
      second_more x_put next_index swapped capacities out_put out_take back_put back_take =
      let more : two ≡ links ++ out ∷ back ∷ [] = two_more ∙ ap (λ l. l ++ back ∷ []) one_more ∙ twice links in
      let at_out : slice_get two (length links) ≡ Some out = ap (λ l. slice_get l (length links)) more ∙ first-there links out (back ∷ []) in
      let x_take : x.take_index ≡ length links + 1 = next_index ∙ ap (λ k. k + 1) x_put in
      let next : length links + 1 ≡ suc (length links) = omega arith in
      let at_back : slice_get two (length links + 1) ≡ Some back =
      ap (slice_get two) next ∙ ap (λ l. slice_get l (suc (length links))) more ∙ second-there links out back in
      let there = name_of net w j in
      let same : there ≡ name_of net (neighbour_of net v i) (back_port_of net v i) =
      ap (λ u. name_of net u j) at_w ∙ ap (name_of net (neighbour_of net v i)) at_j in
      let home : name_of net v i ≡ name_of net (neighbour_of net (neighbour_of net v i) (back_port_of net v i))
      (back_port_of net (neighbour_of net v i) (back_port_of net v i)) =
      ap (λ u. name_of net u i) (sym (back-vertex net ok v i vertex lt)) ∙ ap (name_of net _) (sym (back-port net ok v i vertex lt)) in
      subst (AreMadeBefore net capacity v (i + 1) two)
      (sym (second_more ∙ ap (λ r. row_more r w y) first_more ∙ ap (λ u. row_more (row_more rows v x) u y) at_w))
      (edge-made ok v i vertex lt greater links two rows out back x y more so_far capacities
      record {
        out = (out, (ap (slice_get two) x_put ∙ at_out, out_put));
        back = (back, (ap (slice_get two) x_take ∙ at_back, subst (IsNewTakeEnd back x.take) same back_take));
      }
      record {
        out = (back, (ap (slice_get two) (swapped.0 ∙ x_take) ∙ at_back, subst (IsNewPutEnd back y.put) same back_put));
        back = (out, (ap (slice_get two) (swapped.1 ∙ x_put) ∙ at_out, subst (IsNewTakeEnd out y.take) home out_take));
      }
      (sym swapped.0, swapped.1)) where
        twice : (l : List (Link P T)) → (l ++ out ∷ []) ++ back ∷ [] ≡ l ++ out ∷ back ∷ []
        twice [] = refl
        twice (z ∷ l) = ap (λ k. z ∷ k) (twice l)

  module _ (ok : IsNetwork net) (v : ℕ) (vertex : IsVertex net v) (links : List (Link P T)) (rows : List (List (PortEnds P T))) where
    -- an edge that leads to a lesser vertex was made before
    pub edge-was_made : (i : ℕ) → i < degree_of net v → (v < neighbour_of net v i → ⊥) → AreMadeBefore net capacity v i links rows
        → AreMadeBefore net capacity v (i + 1) links rows
    edge-was_made i lt not so_far =
        let lesser : neighbour_of net v i < v = omega (arith, not, ok.other v i vertex lt) in
        record {
          ends = so_far.ends;
          count = so_far.count;
          few = omega (arith, so_far.few);
          shorter = so_far.shorter;
          there = λ u p in_net in_row. (
            λ lt'. more-end_before net u p v i ((so_far.there u p in_net in_row).0 lt'),
            λ has. (so_far.there u p in_net in_row).1 (made-before net ok v i vertex lt lesser u p in_net in_row has),
          );
        }

    -- after the last port of a vertex comes the first one of the next
    pub vertex-made : AreMadeBefore net capacity v (degree_of net v) links rows → AreMadeBefore net capacity (v + 1) 0 links rows
    vertex-made so_far = record {
      ends = so_far.ends;
      count = so_far.count;
      few = omega (arith, so_far.few, ok.degrees v vertex);
      shorter = so_far.shorter;
      there = λ u p in_net in_row. (
        λ lt. next-vertex net u p v (degree_of net v) ((so_far.there u p in_net in_row).0 lt),
        λ has. (so_far.there u p in_net in_row).1 (last-port net ok u p v in_net in_row has),
      );
    }

  module _ (ok : IsNetwork net) (links : List (Link P T)) (rows : List (List (PortEnds P T))) where
    -- before the first edge there is no end
    pub none-made : links ≡ [] → length rows ≡ count_of net → ((u : ℕ) → row_at rows u ≡ []) → AreMadeBefore net capacity 1 0 links rows
    none-made none long empty = record {
      ends = record {
        capacities = all_none (λ link. link_capacity link ≡ capacity) links none;
        each = λ u p e in_net at. absurd (nothing u p e at);
        joined = λ u p e o in_net in_row at at'. absurd (nothing u p e at);
      };
      count = long;
      few = omega (arith, ap length none);
      shorter = λ u in_net. omega (arith, ap length (empty u));
      there = λ u p in_net in_row. (
        λ lt. absurd (omega (arith, ap length (empty u), lt)),
        λ has. absurd (none-before net ok u p in_net in_row has),
      );
    } where
      nothing : (u p : ℕ) (e : PortEnds P T) → thing_at rows u p ≡ Some e → ⊥
      nothing u p e at = let lt : p < length (row_at rows u) = below (row_at rows u) p e at in omega (arith, lt, ap length (empty u))

    -- after the last vertex all ports have their ends
    pub all-made : AreMadeBefore net capacity (count_of net + 1) 0 links rows → AreMade net capacity links rows
    all-made so_far = record {
      network = ok;
      shape = record {
        count = so_far.count;
        row = λ u in_net. ⊎_elim
            (λ less. let there : length (row_at rows u) < length (row_at rows u)
            = (so_far.there u (length (row_at rows u)) in_net less).1 (inl (inl (omega (arith, in_net.1)))) in
            absurd (omega (arith, there)))
            (λ most. omega (arith, most, so_far.shorter u in_net))
            (cases_lt (length (row_at rows u)) (degree_of net u));
      };
      ends = so_far.ends;
    }
