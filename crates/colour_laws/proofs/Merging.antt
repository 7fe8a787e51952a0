-- One step of merging: a node that has heard what it is to hear chooses its colour at its place, and
-- tells it. The plan: the pulse is that step (phase_merge); what comes is fine at its port (slot_fine);
-- whether it chooses, and what, is the definition's (chooses_is, free_is); so the node goes on (merge_next).
use Rattle.std.proofs.Common.{◌≡◌, ℕ, suc, ◌+◌, ◌*◌, ◌<◌, ◌≤◌, ◌==◌, Bool, true, false, List, refl, ap, sym, ◌∙◌, arith}
use Rattle.std.specs.Prelude.{◌||◌, if◌then◌else◌, map, not, Option, Some, None, Ok, nat_lt}
use Rattle.std.proofs.lemmas.Bool.Decides.{nat_tests}
use Rattle.std.specs.Ordering.{nat_cmp}
use Rattle.std.specs.FinSet.{contains, from_list, contains-from_list_nat}
use Rattle.interference.specs.Net.{Net, IsNetwork, IsVertex, bars_of, id_of, neighbours, forest_count_of, span_of}
use Rattle.node_api.specs.Program.{sizes_of, span, Sizes}
use Rattle.colour_laws.specs.Colours.{three, colours_after, is_barred}
use Rattle.colour_base.proofs.LeastKnown.{least-same}
use Rattle.forest_merge.specs.Free.{is_among, least_free_colour}
use Rattle.forest_merge.proofs.Barred.{HasFree-beside, least_free_colour-at_most}
use Rattle.forest_merge.proofs.Taken.{length-map-filter}
use Rattle.colour_rules.specs.declared.phase.TheConstants.{FIRST_MERGE}
use Rattle.colour_rules.specs.declared.payload.Payload.{Payload}
use Rattle.colour_rules.specs.declared.payload.Payload.TheVariants.{Chosen}
use Rattle.forests.specs.declared.numbering.Role.{Role}
use Rattle.forests.specs.declared.numbering.Role.TheVariants.{Unknown, Up, Down}
use Rattle.colour_rules.specs.Node.{Node, phase_of, steps, up_to}
use Rattle.colour_rules.specs.Table.{is_merged}
use Rattle.colour_rules.specs.Choice.{with_heard, chooses, free_for}
use Rattle.colour_rules.specs.Refusals.{first_refusal, port_rule, own_rule}
use Rattle.colour_rules.specs.Program.{next, tells_chosen, silent}
use Rattle.colour_rules.specs.declared.phase.Phase.TheVariants.{Merge}
use Rattle.colour_laws.proofs.Expected.{stages, step_in, is_heard, heard, merged_by, state_before_choice, state_after_choice, chose, among, IsForest}
use Rattle.forests.specs.Forests.{role_of, parent}
use Rattle.std.proofs.lemmas.Simd.{map-map}
use Rattle.colour_laws.proofs.Sound.{stages_are_three}
use Rattle.colour_laws.proofs.Ports.{in_forest, accepted}
use Rattle.std.proofs.lemmas.Bool.{lt-ltb, le-ltb}
use Rattle.colour_rules.proofs.Barring.{contains-up_to_low}
use Rattle.colour_rules.proofs.Choosing.{rule_if}
use Rattle.colour_rules.proofs.Pairs.{pair_test, phase_merge}
use Rattle.colour_laws.proofs.Choices.{colours_within, choice_is, few_taken}
use Rattle.colour_laws.proofs.Heard.{or, lt_more, slot_by}

port_chosen : (node : Node) (f s c : ℕ) (earlier : List ℕ) (role : Role) → is_merged f role ≡ true → 0 < s → c ≤ span node.sizes →
    port_rule node earlier (Merge f s) role (Some (Chosen c)) ≡ None
port_chosen node f s c earlier Unknown near later small = absurd (cc)
port_chosen node f s c earlier (Up g) near later small =
    let e0 : (s == 0) ≡ false = grind (arith, nat_tests) in rw (e0, near, le-ltb (span node.sizes) c small) refl
port_chosen node f s c earlier (Down g) near later small =
    let e0 : (s == 0) ≡ false = grind (arith, nat_tests) in rw (e0, near, le-ltb (span node.sizes) c small) refl

pub slot_fine : (e i : Bool) (node : Node) (f s c : ℕ) (earlier : List ℕ) (role : Role) → (i ≡ true → is_merged f role ≡ true) → 0 < s →
    c ≤ span node.sizes → port_rule node earlier (Merge f s) role (slot_by e i c) ≡ None
slot_fine true true node f s c earlier role near later small = port_chosen node f s c earlier role (near refl) later small
slot_fine true false node f s c earlier role near later small = refl
slot_fine false i node f s c earlier role near later small = refl

told_if : (b d : Bool) (f free c : ℕ) (role : ℕ → Role) (ws : List ℕ) → (b ≡ true → free ≡ c) →
    (if b then (if d then silent (map role ws) else map (tells_chosen f free) (map role ws)) else silent (map role ws))
    ≡ map (λ w. if b then (if d then None else tells_chosen f c (role w)) else None) ws
told_if true true f free c role ws e = map-map (λ x. None) role ws
told_if true false f free c role ws e = ap (λ x. map (tells_chosen f x) (map role ws)) (e refl) ∙ map-map (tells_chosen f c) role ws
told_if false d f free c role ws e = map-map (λ x. None) role ws

own_when : (b : Bool) (d x : ℕ) → x ≤ d → (if b then rule_if (nat_lt d x) else None) ≡ None
own_when true d x h = rw (le-ltb d x h) refl
own_when false d x h = refl

merged_if : (b : Bool) (a s new old free : ℕ) → b ≡ (a == s) → (b ≡ true → free ≡ new) → (if b then free else (if nat_lt a s then new else old))
    ≡ (if nat_lt a (suc s) then new else old)
unfolding or
merged_if true a s new old free e is = let t : nat_lt a (suc s) ≡ true = lt-ltb a (suc s) (let h : a ≡ s = grind (arith, nat_tests) in omega arith) in
    rw t (is refl)
merged_if false a s new old free e is = let t : nat_lt a (suc s) ≡ nat_lt a s = lt_more a s ∙ ap (λ b. or b (nat_lt a s)) (sym e) ∙ refl in rw t refl

-- the least free colour by the sets of a node, and by what is heard and barred
taken_in : (limit : ℕ) (colours bars : List ℕ) (c : ℕ) → c ≤ limit →
    (contains (from_list {R = nat_cmp} colours) c || contains (up_to limit bars) c) ≡ (among c colours || is_among bars c)
taken_in limit colours bars c low =
    ap (λ (b : Bool). b || contains (up_to limit bars) c) (contains-from_list_nat colours c)
    ∙ ap (λ (b : Bool). among c colours || b) (contains-up_to_low limit bars c low)

free_in : (limit : ℕ) (colours bars : List ℕ) →
    least_free_colour limit (λ c. contains (from_list {R = nat_cmp} colours) c || contains (up_to limit bars) c)
    ≡ least_free_colour limit (λ c. among c colours || is_among bars c)
free_in limit colours bars =
    least-same (λ c. not (contains (from_list {R = nat_cmp} colours) c || contains (up_to limit bars) c)) (λ c. not (among c colours || is_among bars c))
    (suc limit) (λ c below. ap not (taken_in limit colours bars c (omega arith)))

abbrev step_from : ℕ → ℕ → Node → ℕ → Sizes → List Role → Node × List (Option Payload)
step_from f s here merged sizes roles = (
  record here { merged = if chooses here f s then free_for here else merged },
  if chooses here f s then (if suc s == steps sizes then silent roles else map (tells_chosen f (free_for here)) roles) else silent roles,
)

module _ (net : Net) (ok : IsNetwork net) (forest : IsForest net) (f : ℕ) (in_range : f < forest_count_of net) (s : ℕ) (below : s < steps (sizes_of net))
    (v : ℕ) (is_vertex : IsVertex net v) where
  -- what a node chooses before its choice, and when
  chooses_is : chooses (state_before_choice net f s v) f s ≡ (step_in net f v == s)
  chooses_is =
      rw (in_forest net (λ g. (stages net g 10).0 v) f in_range, stages_are_three net f v)
      (pair_test (three (parent net f) (id_of net) v) (colours_after net f v) (span_of net + 1) s (let a = colours_within net forest f v in
      omega arith))

  free_is : (step_in net f v == s) ≡ true → free_for (state_before_choice net f s v) ≡ colours_after net (suc f) v
  free_is h = let e : step_in net f v ≡ s = grind (arith, nat_tests) in
      sym (choice_is net forest f v ∙ ap (λ k. least_free_colour (span_of net) (λ c. among c (heard net f k v) || is_barred net v c)) e ∙
      sym (free_in (span_of net) (heard net f s v) (bars_of net v)))

  free_within : free_for (state_before_choice net f s v) ≤ span_of net
  free_within = rw (free_in (span_of net) (heard net f s v) (bars_of net v)) (least_free_colour-at_most (span_of net)
      (λ c. among c (heard net f s v) || is_barred net v c) (HasFree-beside (span_of net) (heard net f s v) (is_barred net v) (omega (
        arith,
        length-map-filter (is_heard net f s v) (colours_after net (suc f)) (neighbours net v),
        few_taken net forest v,
      ))))

  own_fine : (node : Node) (inbox : List (Option Payload)) → node.sizes ≡ sizes_of net → with_heard node s inbox ≡ state_before_choice net f s v →
      own_rule node (Merge f s) inbox ≡ None
  own_fine node inbox sizes g =
      ap (λ (h : Node). if chooses h f s then rule_if (nat_lt (span node.sizes) (free_for h)) else None) g
      ∙ (ap (λ (z : Sizes). if chooses (state_before_choice net f s v) f s then rule_if (nat_lt (span z) (free_for (state_before_choice net f s v)))
      else None) sizes
      ∙ own_when (chooses (state_before_choice net f s v) f s) (span_of net) (free_for (state_before_choice net f s v)) free_within)

  turn_free : chooses (state_before_choice net f s v) f s ≡ true → free_for (state_before_choice net f s v) ≡ colours_after net (suc f) v
  turn_free h = free_is (sym chooses_is ∙ h)

  step_is : step_from f s (state_before_choice net f s v) (merged_by net f s v) (sizes_of net) (map (role_of net v) (neighbours net v))
      ≡ (state_after_choice net f s v, map (chose net f s v) (neighbours net v))
  step_is =
      ap (λ (m : ℕ). (
        record (state_before_choice net f s v) { merged = m },
        if chooses (state_before_choice net f s v) f s then (if suc s == steps (sizes_of net) then silent (map (role_of net v) (neighbours net v)) else map
            (tells_chosen f (free_for (state_before_choice net f s v))) (map (role_of net v) (neighbours net v))) else silent
            (map (role_of net v) (neighbours net v)),
      ))
      (merged_if (chooses (state_before_choice net f s v) f s) (step_in net f v) s (colours_after net (suc f) v) (colours_after net f v)
      (free_for (state_before_choice net f s v)) chooses_is turn_free)
      ∙ (ap (λ (out : List (Option Payload)). (state_after_choice net f s v, out))
      (told_if (chooses (state_before_choice net f s v) f s) (suc s == steps (sizes_of net)) f (free_for (state_before_choice net f s v))
      (colours_after net (suc f) v) (role_of net v) (neighbours net v) turn_free
      ∙ ap (λ (b : Bool). map (λ w. if b then (if suc s == steps (sizes_of net) then None else tells_chosen f (colours_after net (suc f) v) (role_of net v w))
      else None) (neighbours net v)) chooses_is))

  -- a node that has heard what it is to hear makes its step
  pub merge_next : (node : Node) (inbox : List (Option Payload)) → node.sizes ≡ sizes_of net → node.roles ≡ map (role_of net v) (neighbours net v) →
      with_heard node s inbox ≡ state_before_choice net f s v → first_refusal node (Merge f s) inbox ≡ None →
      next node (FIRST_MERGE + (f * steps (sizes_of net) + s)) inbox ≡ Ok (state_after_choice net f s v, map (chose net f s v) (neighbours net v))
  merge_next node inbox sizes roles g ports =
      let p : ℕ = FIRST_MERGE + (f * steps (sizes_of net) + s) in
      let phase : phase_of node.sizes p ≡ Merge f s = ap (λ (z : Sizes). phase_of z p) sizes ∙ phase_merge (sizes_of net) f s in_range below in
      accepted node p (Merge f s) inbox phase ports (own_fine node inbox sizes g)
      ∙ ap (λ (x : Node × List (Option Payload)). Ok x)
      (ap (λ (h : Node). step_from f s h node.merged node.sizes node.roles) g
      ∙ (ap (λ (m : ℕ). step_from f s (state_before_choice net f s v) m node.sizes node.roles) (ap (λ (h : Node). h.merged) g)
      ∙ (ap (λ (z : Sizes). step_from f s (state_before_choice net f s v) (merged_by net f s v) z node.roles) sizes
      ∙ (ap (λ (rs : List Role). step_from f s (state_before_choice net f s v) (merged_by net f s v) (sizes_of net) rs) roles ∙ step_is))))
