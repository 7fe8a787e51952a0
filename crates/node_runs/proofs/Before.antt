-- Which edges have an end before a port, and in which order the ends of a vertex are put into its row.
use Rattle.std.proofs.Common.{◌≡◌, ◌⊎◌, inl, inr, ⊎_elim, ℕ, ◌+◌, ◌<◌, ◌≤◌, ap, refl, sym, subst, ◌∙◌, arith}
use Rattle.std.specs.Prelude.{◌↔◌}
use Rattle.std.proofs.lemmas.Bool.{cases_eq, cases_lt}
use Rattle.interference.specs.Net.{Net, IsNetwork, IsVertex, back_port_of, degree_of, neighbour_of}
use Rattle.interference.proofs.Neighbours.{at-back_port, back-of-back_port}
use Rattle.node_runs.specs.Makes.{IsBefore, HasEndBefore}

-- a length, where the ports below it are those of which D holds, and D holds exactly below j
boundary : (D : ℕ → Type 0) (len j n : ℕ) → j < n → ((p : ℕ) → p < n → (p < len) ↔ D p) → ((p : ℕ) → p < j → D p) → (D j → ⊥) → len ≡ j
boundary D len j n lt there below not = ⊎_elim
    (λ less. let more : len < len = (there len (omega (arith, less, lt))).1 (below len less) in absurd (omega (arith, more)))
    (λ most. ⊎_elim (λ is. is)
    (λ ne. let past : j < len = omega (arith, most, ne) in absurd (not ((there j lt).0 past)))
    (cases_eq len j))
    (cases_lt len j)

module _ (net : Net) where
  more-before : (w j v i : ℕ) → IsBefore w j v i → IsBefore w j v (i + 1)
  more-before w j v i = ⊎_elim (λ lt. inl lt) (λ at. inr (at.0, omega (arith, at.1)))

  split-before : (w j v i : ℕ) → IsBefore w j v (i + 1) → IsBefore w j v i ⊎ ((w ≡ v) × (j ≡ i))
  split-before w j v i = ⊎_elim (λ lt. inl (inl lt))
      (λ at. ⊎_elim (λ is. inr (at.0, is)) (λ ne. inl (inr (at.0, omega (arith, at.1, ne)))) (cases_eq j i))

  pub more-end_before : (u p v i : ℕ) → HasEndBefore net u p v i → HasEndBefore net u p v (i + 1)
  more-end_before u p v i = ⊎_elim (λ one. inl (more-before u p v i one))
      (λ other. inr (more-before (neighbour_of net u p) (back_port_of net u p) v i other))

  -- an edge that has no end before a port, and one before the next, has an end there
  pub split-end_before : (u p v i : ℕ) → HasEndBefore net u p v (i + 1)
      → HasEndBefore net u p v i ⊎ (((u ≡ v) × (p ≡ i)) ⊎ ((neighbour_of net u p ≡ v) × (back_port_of net u p ≡ i)))
  split-end_before u p v i = ⊎_elim
      (λ one. ⊎_elim (λ old. inl (inl old)) (λ at. inr (inl at)) (split-before u p v i one))
      (λ other. ⊎_elim (λ old. inl (inr old)) (λ at. inr (inr at)) (split-before (neighbour_of net u p) (back_port_of net u p) v i other))

  -- the first port of the next vertex is after all ports of this one
  pub next-vertex : (u p v n : ℕ) → HasEndBefore net u p v n → HasEndBefore net u p (v + 1) 0
  next-vertex u p v n = ⊎_elim (λ one. inl (step u p one)) (λ other. inr (step (neighbour_of net u p) (back_port_of net u p) other)) where
    step : (w j : ℕ) → IsBefore w j v n → IsBefore w j (v + 1) 0
    step w j = ⊎_elim (λ less. inl (omega (arith, less))) (λ at. inl (omega (arith, at.0)))

  pub last-port : (ok : IsNetwork net) (u p v : ℕ) → IsVertex net u → p < degree_of net u → HasEndBefore net u p (v + 1) 0
      → HasEndBefore net u p v (degree_of net v)
  last-port ok u p v vertex lt =
      ⊎_elim (λ one. inl (step u p lt one)) (λ other. inr (step (neighbour_of net u p) (back_port_of net u p) (ok.symmetric u p vertex lt) other)) where
        step : (w j : ℕ) → j < degree_of net w → IsBefore w j (v + 1) 0 → IsBefore w j v (degree_of net v)
        step w j below = ⊎_elim
            (λ less. ⊎_elim (λ is. inr (is, subst (λ k. j < degree_of net k) is below)) (λ ne. inl (omega (arith, less, ne))) (cases_eq w v))
            (λ at. absurd (omega (arith, at.1)))

  -- no edge has an end before the first port of vertex 1
  pub none-before : (ok : IsNetwork net) (u p : ℕ) → IsVertex net u → p < degree_of net u → HasEndBefore net u p 1 0 → ⊥
  none-before ok u p vertex lt =
      ⊎_elim (step u p vertex.0) (step (neighbour_of net u p) (back_port_of net u p) (ok.vertices u p vertex lt).0) where
        step : (w j : ℕ) → 1 ≤ w → IsBefore w j 1 0 → ⊥
        step w j low = ⊎_elim (λ less. absurd (omega (arith, less))) (λ at. absurd (omega (arith, at.1)))

  module _ (ok : IsNetwork net) (v i : ℕ) (vertex : IsVertex net v) (lt : i < degree_of net v) where
    abbrev w : ℕ
    w = neighbour_of net v i

    abbrev j : ℕ
    j = back_port_of net v i

    pub back-vertex : neighbour_of net w j ≡ v
    back-vertex = at-back_port net ok v i vertex lt

    pub back-port : back_port_of net w j ≡ i
    back-port = back-of-back_port net ok v i vertex lt

    -- an edge whose other end is here has its one end there
    pub ends-there : (u p : ℕ) → IsVertex net u → p < degree_of net u → neighbour_of net u p ≡ v → back_port_of net u p ≡ i → (u ≡ w) × (p ≡ j)
    ends-there u p vertex' lt' at at' = (
      sym (at-back_port net ok u p vertex' lt') ∙ ap (λ a. neighbour_of net a (back_port_of net u p)) at ∙ ap (neighbour_of net v) at',
      sym (back-of-back_port net ok u p vertex' lt') ∙ ap (λ a. back_port_of net a (back_port_of net u p)) at ∙ ap (back_port_of net v) at',
    )

    -- if this edge has its lesser end here, all edges of v by lesser ports have an end before, and this one has none
    module _ (greater : v < w) (length_of : ℕ → ℕ)
        (there : (u p : ℕ) → IsVertex net u → p < degree_of net u → (p < length_of u) ↔ HasEndBefore net u p v i) where
      pub own-length : length_of v ≡ i
      own-length = boundary (λ p. HasEndBefore net v p v i) (length_of v) i (degree_of net v) lt (λ p less. there v p vertex less)
          (λ p less. inl (inr (refl, less)))
          (⊎_elim (⊎_elim (λ less. absurd (omega (arith, less))) (λ at. absurd (omega (arith, at.1))))
          (⊎_elim (λ less. absurd (omega (arith, less, greater))) (λ at. absurd (omega (arith, at.0, greater)))))

      pub other-length : length_of w ≡ j
      other-length = boundary (λ p. HasEndBefore net w p v i) (length_of w) j (degree_of net w) (ok.symmetric v i vertex lt)
          (λ p less. there w p (ok.vertices v i vertex lt) less)
          (λ p less. let ascends : neighbour_of net w p < neighbour_of net w j
          = ok.ascending w p j (ok.vertices v i vertex lt) less (ok.symmetric v i vertex lt) in
          inr (inl (omega (arith, ascends, back-vertex))))
          (⊎_elim (⊎_elim (λ less. absurd (omega (arith, less, greater))) (λ at. absurd (omega (arith, at.0, greater))))
          (⊎_elim (λ less. absurd (omega (arith, less, back-vertex))) (λ at. absurd (omega (arith, at.1, back-port)))))

    -- if it has its greater end here, its lesser end is before
    pub made-before : w < v → (u p : ℕ) → IsVertex net u → p < degree_of net u → HasEndBefore net u p v (i + 1) → HasEndBefore net u p v i
    made-before less u p vertex' lt' has = ⊎_elim (λ old. old)
        (⊎_elim
        (λ at. let is : neighbour_of net u p ≡ w = ap (λ a. neighbour_of net a p) at.0 ∙ ap (neighbour_of net v) at.1 in
        inr (inl (omega (arith, is, less))))
        (λ at. let is = ends-there u p vertex' lt' at.0 at.1 in inl (inl (omega (arith, is.0, less)))))
        (split-end_before u p v i has)
