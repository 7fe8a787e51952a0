-- The colours of a network are proper.
use Rattle.std.proofs.Common.{◌≡◌, ◌≢◌, ℕ, zero, suc, ◌<◌, refl, ap, sym, ◌∙◌, arith, subst}
use Rattle.std.specs.Prelude.{Some}
use Rattle.std.specs.List.{Contains}
use Rattle.std.proofs.lemmas.List.{get_or_default}
use Rattle.interference.specs.Net.{Net, IsNetwork, IsVertex, id_of, neighbours, degree_of, neighbour_of, forest_count_of, port_to}
use Rattle.forest_merge.specs.Merge.{IsNumbered, merge}
use Rattle.colour_base.specs.Forest.{IsProper}
use Rattle.colour_laws.specs.Colours.{three, merging, colours_after, colours}
use Rattle.forest_merge.proofs.Proper.{merge-proper}
use Rattle.shift_down.proofs.StepLemmas.{three-proper}
use Rattle.cole_vishkin.proofs.StepLemmas.{bit_steps-proper}
use Rattle.cole_vishkin.specs.BitStep.{six}
use Rattle.forests.specs.Forests.{number, role_of, parent}
use Rattle.colour_laws.proofs.Choices.{few_taken, number_up, number_down, number-same}
use Rattle.forests.specs.declared.numbering.Role.{Role}
use Rattle.forests.specs.declared.numbering.Role.TheVariants.{Unknown, Up, Down}
use Rattle.colour_laws.proofs.Expected.{IsForest}
use Rattle.interference.proofs.Members.{place_of-is}
use Rattle.colour_laws.proofs.Forests.{has_forest}

module _ (net : Net) (ok : IsNetwork net) where
  forest : IsForest net
  forest = has_forest net ok

  pub six_proper : (f : ℕ) → IsProper (parent net f) (six (parent net f) (id_of net))
  six_proper f = bit_steps-proper 4 (parent net f) (id_of net) (forest.apart f)

  pub three_proper : (f : ℕ) → IsProper (parent net f) (three (parent net f) (id_of net))
  three_proper f = three-proper (parent net f) (six (parent net f) (id_of net)) (six_proper f)

  at_port_of : (v w : ℕ) → (near : Contains (neighbours net v) w) → neighbour_of net v near.0 ≡ w
  at_port_of v w near = get_or_default (neighbours net v) near.0 0 w near.1 ∙ near.2

  numbered : (f : ℕ) (old : ℕ → ℕ) → IsNumbered (IsVertex net) (merging net f old)
  numbered f old = record {
    both_ways = λ v w is_vertex near. subst (λ (u : ℕ). IsVertex net u × Contains (neighbours net u) v) (at_port_of v w near) (
      ok.vertices v near.0 is_vertex near.1,
      (
        port_to net (neighbour_of net v near.0) v,
        ok.symmetric v near.0 is_vertex near.1,
        place_of-is v (neighbours net (neighbour_of net v near.0)) v (ok.symmetric v near.0 is_vertex near.1),
      ),
    );
    same_number = λ v w is_vertex near. subst (λ (u : ℕ). number net v u ≡ number net u v) (at_port_of v w near)
        (number-same net forest v near.0 is_vertex near.1);
    few = λ v is_vertex. few_taken net forest v;
  }

  three_apart : (f v k : ℕ) → IsVertex net v → k < degree_of net v → (role : Role) → role_of net v (neighbour_of net v k) ≡ role →
      number net v (neighbour_of net v k) ≡ f → three (parent net f) (id_of net) v ≢ three (parent net f) (id_of net) (neighbour_of net v k)
  three_apart f v k is_vertex h Unknown e n = absurd (forest.known v k is_vertex h e)
  three_apart f v k is_vertex h (Up g) e n = three_proper f v (neighbour_of net v k)
      (subst (λ (i : ℕ). parent net i v ≡ Some (neighbour_of net v k)) (sym (number_up net v (neighbour_of net v k) g e) ∙ n) (forest.up v k g is_vertex h e).0)
  three_apart f v k is_vertex h (Down g) e n =
      let w : ℕ = neighbour_of net v k in
      let back : neighbour_of net w (port_to net w v) ≡ v = place_of-is v (neighbours net w) 0 (ok.symmetric v k is_vertex h) in
      let role : role_of net w (neighbour_of net w (port_to net w v)) ≡ Up g = ap (role_of net w) back ∙ (forest.down v k g is_vertex h e).0 in
      let above : parent net g w ≡ Some v = (forest.up w (port_to net w v) g (ok.vertices v k is_vertex h) (ok.symmetric v k is_vertex h) role).0 ∙
      ap (λ (u : ℕ). Some u) back in
      let above_f : parent net f w ≡ Some v = subst (λ (i : ℕ). parent net i w ≡ Some v) (sym (number_down net v w g e) ∙ n) above in
      λ same. three_proper f w v above_f (sym same)

  -- no two neighbours have one colour where their edge is of a forest before this one
  abbrev pub IsApartBelow : ℕ → (ℕ → ℕ) → Type 0
  IsApartBelow f c = (v w : ℕ) → IsVertex net v → Contains (neighbours net v) w → number net v w < f → c v ≢ c w

  pub merge_apart : (f : ℕ) (old : ℕ → ℕ) → IsApartBelow f old → IsApartBelow (suc f) (merge (merging net f old))
  merge_apart f old apart v w is_vertex near low =
      merge-proper (IsVertex net) (merging net f old) (numbered f old)
      (λ a b inside beside n. subst (λ (u : ℕ). three (parent net f) (id_of net) a ≢ three (parent net f) (id_of net) u) (at_port_of a b beside)
      (three_apart f a beside.0 inside beside.1 (role_of net a (neighbour_of net a beside.0)) refl (ap (λ (u : ℕ). number net a u) (at_port_of a b beside) ∙
      n)))
      (λ a b inside beside less. apart a b inside beside less) v w is_vertex near (omega arith)

  forests_proper : (f : ℕ) → IsApartBelow f (colours_after net f)
  unfolding colours_after
  forests_proper zero v w is_vertex near low = absurd (omega arith)
  forests_proper (suc f) v w is_vertex near low = merge_apart f (colours_after net f) (forests_proper f) v w is_vertex near low

  below_count : (v k : ℕ) → IsVertex net v → k < degree_of net v → (role : Role) → role_of net v (neighbour_of net v k) ≡ role →
      number net v (neighbour_of net v k) < forest_count_of net
  below_count v k is_vertex h Unknown e = absurd (forest.known v k is_vertex h e)
  below_count v k is_vertex h (Up g) e = subst (λ (n : ℕ). n < forest_count_of net) (sym (number_up net v (neighbour_of net v k) g e))
      (forest.up v k g is_vertex h e).2
  below_count v k is_vertex h (Down g) e = subst (λ (n : ℕ). n < forest_count_of net) (sym (number_down net v (neighbour_of net v k) g e))
      (forest.down v k g is_vertex h e).1

  pub colours_proper : (v w : ℕ) → IsVertex net v → Contains (neighbours net v) w → colours net v ≢ colours net w
  colours_proper v w is_vertex near =
      forests_proper (forest_count_of net) v w is_vertex near
      (subst (λ (u : ℕ). number net v u < forest_count_of net) (at_port_of v w near)
      (below_count v near.0 is_vertex near.1 (role_of net v (neighbour_of net v near.0)) refl))
