-- An outcome says of its nodes and links what the laws of single nodes ask: it simulates, and its links split. And it is whole exactly
-- if its network is.
use Rattle.std.proofs.Common.{◌≡◌, ◌⊎◌, inl, inr, ℕ, suc, ◌+◌, ◌-◌, ◌<◌, Bool, true}
use Rattle.std.proofs.Common.{List, [], ◌∷◌, map, length, get_or, refl, sym, ap, ◌∙◌, arith, subst, ⊎_elim}
use Rattle.std.proofs.lemmas.Bool.{and_from, eq-eqb}
use Rattle.std.proofs.lemmas.List.{get_or_default, length-map}
use Rattle.std.proofs.lemmas.List.FromFn.{length-range_with_len}
use Rattle.interference.specs.Net.{Net, IsNetwork, IsVertex, count_of}
use Rattle.node_api.specs.Program.{Program}
use Rattle.alpha_core.specs.View.{Alpha, is_drained}
use Rattle.alpha_laws.specs.Progress.{CanMove, IsWhole}
use Rattle.alpha_laws.proofs.Moves.{moves}
use Rattle.outcomes.specs.Outcome.{History, Gathered, Outcome, IsOutcome, all_drained, all_empty, alpha_in, held_on, is_whole, link_in, no_history, node_in}
use Rattle.outcomes.specs.Outcome.{none_held, row_in, start_of}
use Rattle.outcomes.proofs.Whole.{link_splits}

-- what holds of each entry of a list holds of every one
drained_from : {S M : Type 0} (nodes : List (Gathered S M)) (d : Alpha S M)
    → ((k : ℕ) → k < length nodes → is_drained (get_or (map (λ g. g.alpha) nodes) k d).last (get_or (map (λ g. g.alpha) nodes) k d).node.view ≡ true)
    → all_drained nodes ≡ true
drained_from [] d each = refl
drained_from (g ∷ gs) d each = and_from _ _ (each 0 (omega arith)) (drained_from gs d (λ k lt. each (suc k) (omega arith)))

held_from : {M : Type 0} (row : List (History M)) → ((i : ℕ) → i < length row → length (get_or row i no_history).held ≡ 0) → none_held row ≡ true
held_from [] each = refl
held_from (h ∷ hs) each =
    and_from _ _ (eq-eqb (length h.held) 0 (each 0 (omega arith))) (held_from hs (λ i lt. each (suc i) (omega arith)))

empty_from : {M : Type 0} (rows : List (List (History M))) → ((k : ℕ) → k < length rows → none_held (get_or rows k []) ≡ true) → all_empty rows ≡ true
empty_from [] each = refl
empty_from (row ∷ rows) each = and_from _ _ (each 0 (omega arith)) (empty_from rows (λ k lt. each (suc k) (omega arith)))

module _ {S M E : Type 0} (program : Program S M E) (net : Net) (ok : IsNetwork net) (capacity : ℕ) (transcript : Bool) (outcome : Outcome S M)
    (is : IsOutcome program net capacity transcript outcome) where
  drained_at : IsWhole program net (node_in program net outcome) (held_on outcome) → all_drained outcome.nodes ≡ true
  drained_at whole =
      let size : length outcome.nodes ≡ count_of net =
      sym (length-map outcome.nodes (λ g. g.vertex)) ∙ ap (λ l. length l) is.each_once ∙ length-range_with_len 1 (count_of net) in
      drained_from outcome.nodes (start_of program net 1) (λ k lt.
      let v = k + 1 in
      let low : v - 1 ≡ k = omega arith in
      let vertex : IsVertex net v = (omega arith, omega (arith, size, lt)) in
      let at : alpha_in program net outcome v ≡ get_or (map (λ g. g.alpha) outcome.nodes) k (start_of program net 1) =
      ap (λ j. get_or (map (λ g. g.alpha) outcome.nodes) j (start_of program net v)) low
      ∙ get_or_default (map (λ g. g.alpha) outcome.nodes) k (start_of program net v) (start_of program net 1)
      (omega (arith, length-map outcome.nodes (λ g. g.alpha), lt)) in
      subst (λ (a : Alpha S M). is_drained a.last a.node.view ≡ true) at
      (subst (λ l. is_drained l (node_in program net outcome v).view ≡ true) (sym (is.last v vertex)) (whole.drained v vertex)))

  empty_at : IsWhole program net (node_in program net outcome) (held_on outcome) → all_empty outcome.links ≡ true
  empty_at whole =
      let rows : length outcome.links ≡ count_of net = is.rows ∙ length-range_with_len 1 (count_of net) in
      empty_from outcome.links (λ k lt.
      let v = k + 1 in
      let low : v - 1 ≡ k = omega arith in
      let vertex : IsVertex net v = (omega arith, omega (arith, rows, lt)) in
      subst (λ j. none_held (get_or outcome.links j []) ≡ true) low
      (held_from (row_in outcome v) (λ i below.
      sym (length-map (link_in outcome v i).held (λ x. x.wire)) ∙ ap (λ l. length l) (whole.empty v i vertex (omega (arith, is.row v vertex, below))))))

  pub whole_from : IsWhole program net (node_in program net outcome) (held_on outcome) → is_whole outcome ≡ true
  whole_from whole = and_from _ _ (drained_at whole) (empty_at whole)

  pub goes_on : 0 < capacity
      → ((v : ℕ) × IsVertex net v × CanMove capacity program net (node_in program net outcome) (held_on outcome) v) ⊎ (is_whole outcome ≡ true)
  goes_on some = ⊎_elim
      (λ can. inl can)
      (λ whole. inr (whole_from whole))
      (moves ok is.simulates (link_splits program net ok capacity transcript outcome is) capacity some)
