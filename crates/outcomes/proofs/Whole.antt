-- A whole outcome is that of a complete run: its test says of each node and each link what a whole network is.
use Rattle.std.proofs.Common.{◌≡◌, ℕ, zero, suc, ◌-◌, ◌<◌, Bool, true, List, [], ◌∷◌, ◌++◌, map, length, get_or, refl, sym, ap, ◌∙◌, subst, arith}
use Rattle.std.proofs.lemmas.Bool.{and_parts, eqb-true}
use Rattle.std.proofs.lemmas.List.{append-nil, length-map, map-append}
use Rattle.std.proofs.lemmas.List.FromFn.{length-range_with_len}
use Rattle.interference.specs.Net.{Net, IsNetwork, IsVertex, count_of, degree_of}
use Rattle.node_api.specs.Program.{Program, last_pulse_on}
use Rattle.wires.specs.declared.stamped.Stamped.{Stamped}
use Rattle.wires.specs.StampedWires.{wires_of}
use Rattle.alpha_core.specs.View.{Alpha, is_drained}
use Rattle.alpha_laws.specs.Progress.{IsWhole, Splits}
use Rattle.alpha_laws.proofs.Across.{over}
use Rattle.alpha_laws.proofs.Whole.{complete}
use Rattle.outcomes.specs.Outcome.{History, Gathered, Outcome, IsOutcome, all_drained, all_empty, alpha_in, held_on, is_whole, link_in, no_history, node_in}
use Rattle.outcomes.specs.Outcome.{none_held, put_by, row_in, start_of, taken_by}
use Rattle.outcomes.specs.Whole.{IsCompleteRun}

-- what holds of every entry of a list holds of each
drained_at : {S M : Type 0} (nodes : List (Gathered S M)) (k : ℕ) (d : Alpha S M) → all_drained nodes ≡ true → k < length nodes →
    is_drained (get_or (map (λ g. g.alpha) nodes) k d).last (get_or (map (λ g. g.alpha) nodes) k d).node.view ≡ true
drained_at [] k d e lt = absurd (omega arith)
drained_at (g ∷ gs) zero d e lt = (and_parts _ _ e).0
drained_at (g ∷ gs) (suc k) d e lt = drained_at gs k d (and_parts _ _ e).1 (omega arith)

row_at : {M : Type 0} (rows : List (List (History M))) (k : ℕ) (d : List (History M)) → all_empty rows ≡ true → k < length rows →
    none_held (get_or rows k d) ≡ true
row_at [] k d e lt = absurd (omega arith)
row_at (row ∷ rows) zero d e lt = (and_parts _ _ e).0
row_at (row ∷ rows) (suc k) d e lt = row_at rows k d (and_parts _ _ e).1 (omega arith)

no_wire : {A : Type 0} (ws : List A) → length ws ≡ 0 → ws ≡ []
no_wire [] e = refl
no_wire (w ∷ ws) e = absurd (omega arith)

held_at : {M : Type 0} (row : List (History M)) (i : ℕ) (d : History M) → none_held row ≡ true → i < length row → (get_or row i d).held ≡ []
held_at [] i d e lt = absurd (omega arith)
held_at (h ∷ hs) zero d e lt = no_wire h.held (eqb-true (length h.held) 0 (and_parts _ _ e).0)
held_at (h ∷ hs) (suc i) d e lt = held_at hs i d (and_parts _ _ e).1 (omega arith)

-- without their stamps, wires split in the same way
pub split_wires : {M : Type 0} (put taken held : List (Stamped M)) → put ≡ taken ++ held → wires_of put ≡ wires_of taken ++ wires_of held
split_wires put taken held is = ap (λ l. wires_of l) is ∙ map-append (λ x. x.wire) taken held

-- the links of an outcome split
pub link_splits : {S M E : Type 0} (program : Program S M E) (net : Net) → IsNetwork net → (capacity : ℕ) (transcript : Bool) (outcome : Outcome S M)
    → IsOutcome program net capacity transcript outcome → Splits net (put_by outcome) (taken_by net outcome) (held_on outcome)
link_splits program net ok capacity transcript outcome is v i vertex lt =
    ap (λ l. l ++ held_on outcome v i) (over net ok (λ w j. wires_of (link_in outcome w j).taken) v i vertex lt)
    ∙ sym (split_wires _ _ _ (is.splits v i vertex lt))

module _ {S M E : Type 0} (program : Program S M E) (net : Net) (ok : IsNetwork net) (capacity : ℕ) (transcript : Bool) (outcome : Outcome S M)
    (is : IsOutcome program net capacity transcript outcome) (whole : is_whole outcome ≡ true) where
  abbrev last : ℕ
  last = last_pulse_on program net

  pub drained : (v : ℕ) → IsVertex net v → is_drained last (node_in program net outcome v).view ≡ true
  drained v vertex =
      let alpha = alpha_in program net outcome v in
      let size : length outcome.nodes ≡ count_of net =
      sym (length-map outcome.nodes (λ g. g.vertex)) ∙ ap (λ l. length l) is.each_once ∙ length-range_with_len 1 (count_of net) in
      subst (λ l. is_drained l alpha.node.view ≡ true) (is.last v vertex)
      (drained_at outcome.nodes (v - 1) (start_of program net v) (and_parts _ _ whole).0 (omega (arith, size, vertex.0, vertex.1)))

  pub empty : (v i : ℕ) → IsVertex net v → i < degree_of net v → (link_in outcome v i).held ≡ []
  empty v i vertex lt =
      let in_rows : v - 1 < length outcome.links = omega (arith, is.rows, length-range_with_len 1 (count_of net), vertex.0, vertex.1) in
      let in_row : i < length (row_in outcome v) = omega (arith, is.row v vertex, lt) in
      held_at (row_in outcome v) i no_history (row_at outcome.links (v - 1) [] (and_parts _ _ whole).1 in_rows) in_row

  splits : Splits net (put_by outcome) (taken_by net outcome) (held_on outcome)
  splits = link_splits program net ok capacity transcript outcome is

  pub whole_is : IsWhole program net (node_in program net outcome) (held_on outcome)
  whole_is = record { drained = drained; empty = λ v i vertex lt. ap (λ l. wires_of l) (empty v i vertex lt) }

  pub complete_run : IsCompleteRun program net outcome
  complete_run = record {
    halted = λ v vertex. (and_parts _ _ (and_parts _ _ (drained v vertex)).0).0;
    all_taken = λ v i vertex lt.
        is.splits v i vertex lt ∙ ap (λ l. (link_in outcome v i).taken ++ l) (empty v i vertex lt) ∙ append-nil (link_in outcome v i).taken;
    none_held = empty;
    complete = complete ok is.simulates splits whole_is;
  }
