-- The place at which a node chooses, and what it chooses.
use Rattle.std.proofs.Common.{◌≡◌, length, ℕ, zero, suc, ◌+◌, ◌*◌, ◌<◌, ◌≤◌, ◌==◌, Bool, true, false, List, [], ◌∷◌, refl, ap, sym, ◌∙◌, arith, inl, inr}
use Rattle.std.specs.Prelude.{Option, if◌then◌else◌, ◌&&◌, ◌||◌, map, filter, nat_lt, nat_le}
use Rattle.std.specs.List.{Contains}
use Rattle.std.proofs.lemmas.Bool.Decides.{nat_tests}
use Rattle.std.proofs.Math.Nat.{mul-le-mul_right}
use Rattle.std.proofs.lemmas.Bool.{cases_order, lt-ltb, le-ltb, ltb-true}
use Rattle.interference.specs.Net.{Net, IsBarred, IsVertex, bars_of, degree_of, id_of, neighbour_of, neighbours, span_of}
use Rattle.node_api.specs.Program.{sizes_of}
use Rattle.colour_base.specs.Forest.{IsProper, IsWithin}
use Rattle.cole_vishkin.specs.Digits.{HasDigits}
use Rattle.cole_vishkin.specs.declared.step.TheConstants.{IDENTIFIER_DIGITS}
use Rattle.colour_laws.specs.Colours.{three, is_barred, merging, colours_after}
use Rattle.forest_merge.specs.Merge.{Merging, looked_at, is_looked_at, is_before}
use Rattle.forest_merge.specs.Free.{colours_to, is_among, least_free_colour}
use Rattle.cole_vishkin.specs.BitStep.{six}
use Rattle.shift_down.proofs.StepLemmas.{three-within}
use Rattle.cole_vishkin.proofs.StepLemmas.{four-small}
use Rattle.forest_merge.proofs.Merges.{merge-is}
use Rattle.forest_merge.proofs.Barred.{least_free_colour-at_most, least_free_colour-untaken, length-colours_to}
use Rattle.forest_merge.proofs.Proper.{merge-unbarred_few, merge-within_few}
use Rattle.forest_merge.proofs.Taken.{HasFree-few, is_among-at}
use Rattle.colour_rules.specs.Node.{steps}
use Rattle.colour_rules.specs.Table.{is_merged}
use Rattle.colour_laws.proofs.Expected.{step_in, is_heard, heard, among, IsForest}
use Rattle.forests.specs.Forests.{role_of, number, parent}
use Rattle.forests.specs.declared.numbering.Role.{Role}
use Rattle.forests.specs.declared.numbering.Role.TheVariants.{Unknown, Up, Down}
use Rattle.colour_rules.proofs.Pairs.{same_bool}

-- what is not among these is none of them
pub not_among : (colours : List ℕ) (c : ℕ) → is_among colours c ≡ false → Contains colours c → ⊥
not_among colours c none near = let some : is_among colours c ≡ true = is_among-at colours near.0 c near.1 near.2 in absurd (cc)

pub filter-same : (t u : ℕ → Bool) (ws : List ℕ) → ((w : ℕ) → t w ≡ u w) → filter t ws ≡ filter u ws
filter-same t u [] same = refl
filter-same t u (w ∷ ws) same = rw (same w) (ap (λ rest. if u w then w ∷ rest else rest) (filter-same t u ws same))

-- the pairs are before one another as their places are
before_test : (k j k' j' w : ℕ) → j < w → j' < w → (if k == k' then nat_lt j j' else nat_lt k k') ≡ nat_lt (k * w + j) (k' * w + j')
before_test k j k' j' w h h' =
    elim (cases_order k k') [
      | inl same ↦
          let products : k * w ≡ k' * w = ap (λ x. x * w) same in
          let test : (k == k') ≡ true = grind (arith, nat_tests) in
          rw test (same_bool (nat_lt j j') (nat_lt (k * w + j) (k' * w + j')) (λ e. lt-ltb (k * w + j) (k' * w + j') (let l : j < j' = ltb-true j j' e in
          omega arith)) (λ e. lt-ltb j j' (let l : k * w + j < k' * w + j' = ltb-true (k * w + j) (k' * w + j') e in omega arith)))
      | inr side ↦
          let apart : (k == k') ≡ false = elim side [ inl lt ↦ grind (arith, nat_tests) | inr gt ↦ grind (arith, nat_tests) ] in
          rw apart (elim side [
            | inl lt ↦ let products : (k + 1) * w ≤ k' * w = mul-le-mul_right w (omega arith) in lt-ltb k k' lt ∙
                sym (lt-ltb (k * w + j) (k' * w + j') (omega arith))
            | inr gt ↦ let products : (k' + 1) * w ≤ k * w = mul-le-mul_right w (omega arith) in le-ltb k k' (omega arith) ∙
                sym (le-ltb (k * w + j) (k' * w + j') (omega arith))
          ])
    ]

step_low : (k j d : ℕ) → k ≤ 2 → j ≤ d → k * (d + 1) + j < 3 * (d + 1)
step_low k j d h l = let products : k * (d + 1) ≤ 2 * (d + 1) = mul-le-mul_right (d + 1) h in omega arith

both-if : (a x : Bool) → (a && x) ≡ (if a then x else false)
both-if true x = refl
both-if false x = refl

-- what a vertex looks at, by the number of the edge and the order of the pairs
looked-is : (m : Merging) (v w n : ℕ) (x : Bool) → m.number v w ≡ n → is_before m w v ≡ x → is_looked_at m v w ≡ (if nat_le n m.forest then x else false)
looked-is m v w n x e f = rw (e, f) (both-if (nat_le n m.forest) x)

up_if : (b : Bool) (x g : ℕ) → (if b then Up x else Down x) ≡ Up g → x ≡ g
up_if true x g e = cc
up_if false x g e = absurd (cc)

down_if : (b : Bool) (x g : ℕ) → (if b then Up x else Down x) ≡ Down g → x ≡ g
down_if true x g e = absurd (cc)
down_if false x g e = cc

merged_if : (b : Bool) (f x : ℕ) → is_merged f (if b then Up x else Down x) ≡ nat_le x f
merged_if true f x = refl
merged_if false f x = refl

-- the forest of a role is the number of its edge
pub number_up : (net : Net) (v w g : ℕ) → role_of net v w ≡ Up g → number net v w ≡ g
unfolding role_of
number_up net v w g e = up_if (nat_lt (id_of net v) (id_of net w)) (number net v w) g e

pub number_down : (net : Net) (v w g : ℕ) → role_of net v w ≡ Down g → number net v w ≡ g
unfolding role_of
number_down net v w g e = down_if (nat_lt (id_of net v) (id_of net w)) (number net v w) g e

pub merged_is : (net : Net) (f v w : ℕ) → is_merged f (role_of net v w) ≡ nat_le (number net v w) f
unfolding role_of
merged_is net f v w = merged_if (nat_lt (id_of net v) (id_of net w)) f (number net v w)

-- the six colours of a forest are 0 to 5
pub six_within : (parents : ℕ → Option ℕ) (ids : ℕ → ℕ) → IsProper parents ids → HasDigits IDENTIFIER_DIGITS ids → IsWithin 5 (six parents ids)
six_within parents ids proper small v = omega (
  arith,
  four-small IDENTIFIER_DIGITS 8 (omega arith) (omega arith) (omega arith) (omega arith) parents ids
      proper small v,
)

module _ (net : Net) (forest : IsForest net) where
  -- an edge has one number at both ends
  same_number : (v k : ℕ) → IsVertex net v → k < degree_of net v → (role : Role) → role_of net v (neighbour_of net v k) ≡ role →
      number net v (neighbour_of net v k) ≡ number net (neighbour_of net v k) v
  same_number v k is_vertex h Unknown e = absurd (forest.known v k is_vertex h e)
  same_number v k is_vertex h (Up g) e = number_up net v (neighbour_of net v k) g e ∙
      sym (number_down net (neighbour_of net v k) v g (forest.up v k g is_vertex h e).1)
  same_number v k is_vertex h (Down g) e = number_down net v (neighbour_of net v k) g e ∙
      sym (number_up net (neighbour_of net v k) v g (forest.down v k g is_vertex h e).0)

  pub number-same : (v k : ℕ) → IsVertex net v → k < degree_of net v → number net v (neighbour_of net v k) ≡ number net (neighbour_of net v k) v
  number-same v k is_vertex h = same_number v k is_vertex h (role_of net v (neighbour_of net v k)) refl

  pub three_within : (f : ℕ) → IsWithin 2 (three (parent net f) (id_of net))
  three_within f = three-within (parent net f) (six (parent net f) (id_of net)) (six_within (parent net f) (id_of net) (forest.apart f) forest.small)

  -- the neighbours of a vertex and the colours that are barred at it
  pub few_taken : (v : ℕ) → degree_of net v + length (colours_to (span_of net) (is_barred net v)) ≤ span_of net
  few_taken v = omega (arith, forest.few v, forest.few_bars v, length-colours_to (span_of net) (bars_of net v))

  few_barred : (v : ℕ) → length (bars_of net v) ≤ span_of net
  few_barred v = omega (arith, forest.few_bars v)

  pub colours_within : (f v : ℕ) → colours_after net f v ≤ span_of net
  unfolding colours_after
  colours_within zero v = least_free_colour-at_most (span_of net) (is_barred net v) (HasFree-few (span_of net) (bars_of net v) (few_barred v))
  colours_within (suc f) v = merge-within_few (merging net f (colours_after net f)) v (few_taken v)

  not_barred : (f v : ℕ) → is_barred net v (colours_after net f v) ≡ false
  unfolding colours_after
  not_barred zero v = least_free_colour-untaken (span_of net) (is_barred net v) (HasFree-few (span_of net) (bars_of net v) (few_barred v))
  not_barred (suc f) v = merge-unbarred_few (merging net f (colours_after net f)) v (few_taken v)

  pub colours_unbarred : (f v : ℕ) → IsBarred net v (colours_after net f v) → ⊥
  colours_unbarred f v = not_among (bars_of net v) (colours_after net f v) (not_barred f v)

  pub step_within : (f v : ℕ) → step_in net f v < steps (sizes_of net)
  step_within f v = step_low (three (parent net f) (id_of net) v) (colours_after net f v) (span_of net) (three_within f v) (colours_within f v)

  pub looked_as_heard : (f v : ℕ) → looked_at (merging net f (colours_after net f)) v ≡ filter (is_heard net f (step_in net f v) v) (neighbours net v)
  looked_as_heard f v = filter-same (is_looked_at (merging net f (colours_after net f)) v) (is_heard net f (step_in net f v) v) (neighbours net v)
      (λ w. looked-is (merging net f (colours_after net f)) v w (number net v w) (nat_lt (step_in net f w) (step_in net f v)) refl
      (before_test (three (parent net f) (id_of net) w) (colours_after net f w) (three (parent net f) (id_of net) v) (colours_after net f v)
      (span_of net + 1) (let a = colours_within f w in omega arith) (let a = colours_within f v in omega arith)))

  pub choice_is : (f v : ℕ) →
      colours_after net (suc f) v ≡ least_free_colour (span_of net) (λ c. among c (heard net f (step_in net f v) v) || is_barred net v c)
  unfolding colours_after
  choice_is f v = merge-is (merging net f (colours_after net f)) v ∙
      ap (λ (ws : List ℕ). least_free_colour (span_of net) (λ c. among c (map (colours_after net (suc f)) ws) || is_barred net v c)) (looked_as_heard f v)
