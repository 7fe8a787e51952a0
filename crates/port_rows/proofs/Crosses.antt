-- Things change places over one link after another: over those of vertex 1 by port, then over those of vertex 2, ..
use Rattle.std.proofs.Common.{◌≡◌, ◌≢◌, ℕ, ◌+◌, ◌<◌, List, sym, ap, ◌∙◌, subst, arith, ⊎_elim}
use Rattle.std.proofs.lemmas.Bool.{cases_eq}
use Rattle.interference.specs.Net.{Net, IsNetwork, IsVertex, degree_of, neighbour_of, back_port_of}
use Rattle.interference.specs.declared.limits.TheConstants.{MAX_DEGREE}
use Rattle.interference.proofs.Neighbours.{at-back_port, back-of-back_port}
use Rattle.port_rows.specs.Rows.{thing_at}
use Rattle.port_rows.specs.Crossing.{IsCrossedTo, IsSwapped, place}

module _ {A : Type 0} (net : Net) (ok : IsNetwork net) (rows : List (List A)) where
  -- the links of a vertex are behind it
  pub next_vertex : (v : ℕ) (now : List (List A)) → IsVertex net v → IsCrossedTo net rows (place v (degree_of net v)) now
      → IsCrossedTo net rows (place (v + 1) 0) now
  next_vertex v now vertex to = record {
    shape = to.shape;
    up = λ u k at lt up before.
        let few = ok.degrees u at in
        to.up u k at lt up (⊎_elim (λ e. subst (λ d. place u k < place v d) (ap (degree_of net) e) (omega (arith, e, lt)))
        (λ ne. omega (arith, ne, before, lt, few)) (cases_eq u v));
    down = λ u k at lt down before.
        let w = neighbour_of net u k in
        let other = ok.vertices u k at lt in
        let below = ok.symmetric u k at lt in
        let few = ok.degrees w other in
        to.down u k at lt down (⊎_elim (λ e. subst (λ d. place w (back_port_of net u k) < place v d) (ap (degree_of net) e) (omega (arith, e, below)))
        (λ ne. omega (arith, ne, before, below, few)) (cases_eq w v));
    later_up = λ u k at lt up after. to.later_up u k at lt up (omega (arith, after, ok.degrees v vertex));
    later_down = λ u k at lt down after. to.later_down u k at lt down (omega (arith, after, ok.degrees v vertex));
  }

  -- one link of a vertex: over it things change places if it leads to a greater vertex
  module _ (v i : ℕ) (vertex : IsVertex net v) (lt : i < degree_of net v) (old : List (List A)) (to : IsCrossedTo net rows (place v i) old) where
    abbrev w : ℕ
    w = neighbour_of net v i

    abbrev j : ℕ
    j = back_port_of net v i

    port_below : (u k : ℕ) → IsVertex net u → k < degree_of net u → k < MAX_DEGREE + 1
    port_below u k at below = omega (arith, below, ok.degrees u at)

    -- only one end is at a place
    at_up : (u k : ℕ) → IsVertex net u → k < degree_of net u → place u k ≡ place v i → (u ≡ v) × (k ≡ i)
    at_up u k at below same = (
      omega (arith, same, port_below u k at below, port_below v i vertex lt),
      omega (arith, same, port_below u k at below, port_below v i vertex lt),
    )

    at_down : (u k : ℕ) → IsVertex net u → k < degree_of net u → place (neighbour_of net u k) (back_port_of net u k) ≡ place v i → (u ≡ w) × (k ≡ j)
    at_down u k at below same =
        let e = at_up (neighbour_of net u k) (back_port_of net u k) (ok.vertices u k at below) (ok.symmetric u k at below) same in (
          sym (at-back_port net ok u k at below) ∙ ap (λ x. neighbour_of net x (back_port_of net u k)) e.0 ∙ ap (neighbour_of net v) e.1,
          sym (back-of-back_port net ok u k at below) ∙ ap (λ x. back_port_of net x (back_port_of net u k)) e.0 ∙ ap (back_port_of net v) e.1,
        )

    pub passed_over : w < v → IsCrossedTo net rows (place v (i + 1)) old
    passed_over low = record {
      shape = to.shape;
      up = λ u k at below up before. to.up u k at below up (⊎_elim
          (λ e. let here = at_up u k at below e in
          absurd (omega (arith, low, up, here.0, ap (λ x. neighbour_of net x k) here.0 ∙ ap (neighbour_of net v) here.1)))
          (λ ne. omega (arith, ne, before)) (cases_eq (place u k) (place v i)));
      down = λ u k at below down before. to.down u k at below down (⊎_elim
          (λ e. let there = at_down u k at below e in
          let from = (at_up (neighbour_of net u k) (back_port_of net u k) (ok.vertices u k at below) (ok.symmetric u k at below) e).0 in
          absurd (omega (arith, low, down, there.0, from)))
          (λ ne. omega (arith, ne, before)) (cases_eq (place (neighbour_of net u k) (back_port_of net u k)) (place v i)));
      later_up = λ u k at below up after. to.later_up u k at below up (omega (arith, after));
      later_down = λ u k at below down after. to.later_down u k at below down (omega (arith, after));
    }

    module _ (high : v < w) (new : List (List A)) (is : IsSwapped old v i w j new) where
      other : IsVertex net w
      other = ok.vertices v i vertex lt

      below' : j < degree_of net w
      below' = ok.symmetric v i vertex lt

      back : neighbour_of net w j ≡ v
      back = at-back_port net ok v i vertex lt

      again : back_port_of net w j ≡ i
      again = back-of-back_port net ok v i vertex lt

      -- a thing at another link stays
      stays_up : (u k : ℕ) → IsVertex net u → k < degree_of net u → u < neighbour_of net u k → place u k ≢ place v i → thing_at new u k ≡ thing_at old u k
      stays_up u k at below up ne = is.others u k at.0
          (λ e f. ne (ap (λ x. place x k) e ∙ ap (λ x. place v x) f))
          (λ e f. absurd (omega (arith, up, high, e, ap (λ x. neighbour_of net x k) e ∙ ap (neighbour_of net w) f ∙ back)))

      stays_down : (u k : ℕ) → IsVertex net u → k < degree_of net u → neighbour_of net u k < u
          → place (neighbour_of net u k) (back_port_of net u k) ≢ place v i → thing_at new u k ≡ thing_at old u k
      stays_down u k at below down ne = is.others u k at.0
          (λ e f. absurd (omega (arith, down, high, e, ap (λ x. neighbour_of net x k) e ∙ ap (neighbour_of net v) f)))
          (λ e f. let at_w = ap (λ x. neighbour_of net x k) e ∙ ap (neighbour_of net w) f ∙ back in
          let at_j = ap (λ x. back_port_of net x k) e ∙ ap (back_port_of net w) f ∙ again in
          ne (ap (λ x. place x (back_port_of net u k)) at_w ∙ ap (λ x. place v x) at_j))

      pub crossed_over : IsCrossedTo net rows (place v (i + 1)) new
      crossed_over = record {
        shape = record { count = is.count ∙ to.shape.count; row = λ u at. is.long u ∙ to.shape.row u at };
        up = λ u k at below up before. ⊎_elim
            (λ e. let here = at_up u k at below e in
            subst (λ x. (thing_at new x k ≡ thing_at rows (neighbour_of net x k) (back_port_of net x k))) (sym here.0)
            (subst (λ y. (thing_at new v y ≡ thing_at rows (neighbour_of net v y) (back_port_of net v y))) (sym here.1)
            (is.here ∙ to.later_down w j other below' (omega (arith, high, back))
            (omega (arith, ap (λ x. place x (back_port_of net w j)) back ∙ ap (λ x. place v x) again)))))
            (λ ne. stays_up u k at below up ne ∙ to.up u k at below up (omega (arith, ne, before)))
            (cases_eq (place u k) (place v i));
        down = λ u k at below down before. ⊎_elim
            (λ e. let there = at_down u k at below e in
            subst (λ x. (thing_at new x k ≡ thing_at rows (neighbour_of net x k) (back_port_of net x k))) (sym there.0)
            (subst (λ y. (thing_at new w y ≡ thing_at rows (neighbour_of net w y) (back_port_of net w y))) (sym there.1)
            (is.there ∙ to.later_up v i vertex lt high (omega arith)
            ∙ ap (λ x. thing_at rows x i) (sym back) ∙ ap (λ x. thing_at rows (neighbour_of net w j) x) (sym again))))
            (λ ne. stays_down u k at below down ne ∙ to.down u k at below down (omega (arith, ne, before)))
            (cases_eq (place (neighbour_of net u k) (back_port_of net u k)) (place v i));
        later_up = λ u k at below up after.
            stays_up u k at below up (λ e. absurd (omega (arith, after, e))) ∙ to.later_up u k at below up (omega (arith, after));
        later_down = λ u k at below down after.
            stays_down u k at below down (λ e. absurd (omega (arith, after, e))) ∙ to.later_down u k at below down (omega (arith, after));
      }
