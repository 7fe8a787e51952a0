-- The steps of merging one after another: the first of a forest, where nothing comes, and each further one.
use Rattle.std.proofs.Common.{◌≡◌, ℕ, suc, ◌+◌, ◌*◌, ◌<◌, ◌==◌, Bool, true, false, List, [], refl, ap, sym, ◌∙◌, arith}
use Rattle.std.specs.Prelude.{if◌then◌else◌, map, Option, None, Ok, nat_le}
use Rattle.std.proofs.lemmas.Bool.Decides.{nat_tests}
use Rattle.std.specs.Ordering.{nat_cmp}
use Rattle.std.specs.FinSet.{FinSet, empty}
use Rattle.interference.specs.Net.{Net, IsNetwork, IsVertex, neighbours, degree_of, neighbour_of, forest_count_of}
use Rattle.node_api.specs.Program.{sizes_of}
use Rattle.colour_rules.specs.declared.phase.TheConstants.{FIRST_MERGE}
use Rattle.colour_rules.specs.declared.payload.Payload.{Payload}
use Rattle.colour_rules.specs.Node.{Node, steps}
use Rattle.colour_rules.specs.Choice.{with_heard, with_chosen}
use Rattle.colour_rules.specs.Refusals.{ports_refusal}
use Rattle.colour_rules.specs.Program.{next, tells_chosen}
use Rattle.colour_rules.specs.declared.phase.Phase.TheVariants.{Merge}
use Rattle.colour_laws.specs.Colours.{colours_after}
use Rattle.colour_laws.proofs.Expected.{step_in, merged_by, state_before_choice, state_after_choice, chose, IsForest}
use Rattle.forests.specs.Forests.{number, role_of}
use Rattle.node_api.proofs.Inboxes.{map-members}
use Rattle.colour_laws.proofs.Ports.{ports_none}
use Rattle.std.proofs.lemmas.Bool.{lt-ltb, le-ltb}
use Rattle.colour_laws.proofs.Choices.{step_within, colours_within, merged_is, number-same}
use Rattle.colour_laws.proofs.Heard.{slot_by, heard_set, more_set}
use Rattle.colour_laws.proofs.Merging.{slot_fine, merge_next}

not_same : (a b : ℕ) → a < b → (a == b) ≡ false
not_same a b h = grind (arith, nat_tests)

not_zero : (a : ℕ) → (suc a == 0) ≡ false
not_zero a = grind (arith, nat_tests)

-- what is told of a choice along an edge
tells_by : (net : Net) (f c w v : ℕ) → tells_chosen f c (role_of net w v) ≡ slot_by true (nat_le (number net w v) f) c
tells_by net f c w v = ap (λ (b : Bool). slot_by true b c) (merged_is net f w v)

-- What a node has merged at the first step of a forest, and at the last.
pub nothing_merged : (net : Net) (f v : ℕ) → merged_by net f 0 v ≡ colours_after net f v
nothing_merged net f v = rw (le-ltb (step_in net f v) 0 (omega arith)) refl

pub all_merged : (net : Net) (forest : IsForest net) (f s v : ℕ) → suc s ≡ steps (sizes_of net) → merged_by net f (suc s) v ≡ colours_after net (suc f) v
all_merged net forest f s v e = rw (lt-ltb (step_in net f v) (suc s) (let h = step_within net forest f v in omega arith)) refl

module _ (net : Net) (ok : IsNetwork net) (forest : IsForest net) (f : ℕ) (in_range : f < forest_count_of net) where
  -- the first step of a forest, where nothing comes
  pub first_next : (node : Node) (v : ℕ) → IsVertex net v → with_heard node 0 (map (λ (w : ℕ). None) (neighbours net v)) ≡ state_before_choice net f 0 v →
      node.sizes ≡ sizes_of net → node.roles ≡ map (role_of net v) (neighbours net v) →
      next node (FIRST_MERGE + (f * steps (sizes_of net) + 0)) (map (λ (w : ℕ). None) (neighbours net v)) ≡ Ok (
        state_after_choice net f 0 v,
        map (chose net f 0 v) (neighbours net v),
      )
  first_next node v is_vertex g sizes roles =
      merge_next net ok forest f in_range 0 (let h = step_within net forest f v in omega arith) v is_vertex node (map (λ (w : ℕ). None) (neighbours net v))
      sizes roles g
      (rw roles (ports_none node (Merge f 0) (role_of net v) (λ (w : ℕ). None) (neighbours net v) (λ k h earlier. refl) 0 []))

  -- each further step
  module _ (s : ℕ) (below : suc s < steps (sizes_of net)) (v : ℕ) (is_vertex : IsVertex net v) where
    abbrev slot : ℕ → Option Payload
    slot w = slot_by (step_in net f w == s) (nat_le (number net v w) f) (colours_after net (suc f) w)

    slot_is : (k : ℕ) → k < degree_of net v → chose net f s (neighbour_of net v k) v ≡ slot (neighbour_of net v k)
    slot_is k h =
        let w : ℕ = neighbour_of net v k in
        let not_last : (suc s == steps (sizes_of net)) ≡ false = not_same (suc s) (steps (sizes_of net)) below in
        ap (λ (d : Bool). if step_in net f w == s then (if d then None else tells_chosen f (colours_after net (suc f) w) (role_of net w v)) else None) not_last
        ∙ ap (λ (told : Option Payload). if step_in net f w == s then told else None) (tells_by net f (colours_after net (suc f) w) w v)
        ∙ ap (λ (n : ℕ). slot_by (step_in net f w == s) (nat_le n f) (colours_after net (suc f) w)) (sym (number-same net forest v k is_vertex h))

    gathered_is : with_heard (state_after_choice net f s v) (suc s) (map slot (neighbours net v)) ≡ state_before_choice net f (suc s) v
    gathered_is =
        let later : (suc s == 0) ≡ false = not_zero s in
        ap (λ (b : Bool). record (state_after_choice net f s v) {
          colour_before = if b then merged_by net f (suc s) v else colours_after net f v;
          chosen =
              if b then empty else with_chosen (heard_set net f s v) (map slot (neighbours net v));
        }) later
        ∙ ap (λ (set : FinSet nat_cmp). record (state_after_choice net f s v) { chosen = set }) (more_set net f s v)

    ports_fine : ports_refusal (state_after_choice net f s v) (Merge f (suc s)) 0 [] (map (role_of net v) (neighbours net v)) (map slot (neighbours net v))
        ≡ None
    ports_fine = ports_none (state_after_choice net f s v) (Merge f (suc s)) (role_of net v) slot (neighbours net v)
        (λ k h earlier. slot_fine (step_in net f (neighbour_of net v k) == s) (nat_le (number net v (neighbour_of net v k)) f) (state_after_choice net f s v)
        f (suc s) (colours_after net (suc f) (neighbour_of net v k)) earlier (role_of net v (neighbour_of net v k))
        (λ near. merged_is net f v (neighbour_of net v k) ∙ near) (omega arith) (colours_within net forest (suc f) (neighbour_of net v k)))
        0 []

    pub further_next : next (state_after_choice net f s v) (FIRST_MERGE + (f * steps (sizes_of net) + suc s))
        (map (λ w. chose net f s w v) (neighbours net v)) ≡ Ok (state_after_choice net f (suc s) v, map (chose net f (suc s) v) (neighbours net v))
    further_next =
        let came : map (λ w. chose net f s w v) (neighbours net v) ≡ map slot (neighbours net v) =
        map-members (λ w. chose net f s w v) slot (neighbours net v) slot_is in
        ap (λ (inbox : List (Option Payload)). next (state_after_choice net f s v) (FIRST_MERGE + (f * steps (sizes_of net) + suc s)) inbox) came
        ∙ merge_next net ok forest f in_range (suc s) below v is_vertex (state_after_choice net f s v) (map slot (neighbours net v)) refl refl gathered_is
        ports_fine
