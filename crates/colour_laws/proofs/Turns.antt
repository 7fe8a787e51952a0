-- The pulses of the synchronous run by their kind: of what stands before one, it makes what is expected
-- after it.
use Rattle.std.proofs.Common.{◌≡◌, ℕ, suc, ◌+◌, ◌*◌, ◌<◌, ◌==◌, Bool, true, false, refl, ap, sym, ◌∙◌, arith}
use Rattle.std.specs.Prelude.{if◌then◌else◌, map, Option, None}
use Rattle.std.specs.Ordering.{nat_cmp}
use Rattle.std.specs.FinSet.{FinSet, empty}
use Rattle.std.proofs.lemmas.Bool.{eq-eqb}
use Rattle.interference.specs.Net.{Net, IsNetwork, neighbours, neighbour_of, forest_count_of}
use Rattle.node_api.specs.Program.{sizes_of}
use Rattle.node_api.specs.Run.{inbox_from}
use Rattle.colour_rules.specs.declared.phase.TheConstants.{FIRST_MERGE}
use Rattle.colour_rules.specs.declared.payload.Payload.{Payload}
use Rattle.colour_rules.specs.Node.{steps}
use Rattle.colour_rules.specs.Choice.{with_heard}
use Rattle.colour_rules.specs.Program.{next, tells_chosen}
use Rattle.forests.specs.Forests.{role_of}
use Rattle.colour_laws.specs.Colours.{colours_after}
use Rattle.colour_laws.proofs.Expected.{step_in, state_while_reducing, tells, state_before_choice, state_after_choice, chose, IsForest}
use Rattle.node_api.proofs.Inboxes.{map-members}
use Rattle.colour_laws.proofs.Work.{work_step}
use Rattle.colour_laws.proofs.Steps.{first_next, further_next, nothing_merged, all_merged}
use Rattle.colour_laws.proofs.Heard.{empty_set}
use Rattle.colour_laws.proofs.Stands.{at, HoldsAfter, NextIs, comes}

abbrev no_payload : Option Payload
no_payload = None

none_if : (b : Bool) → (if b then no_payload else no_payload) ≡ None
none_if true = refl
none_if false = refl

module _ (net : Net) (ok : IsNetwork net) (forest : IsForest net) where
  pub work_goes : (p q : ℕ) → p ≡ q + 2 → q < 10 → HoldsAfter net p (state_while_reducing net q) (tells net q) →
      NextIs net p (state_while_reducing net (suc q)) (tells net (suc q))
  work_goes p q e early stand v is_vertex =
      let number : suc p ≡ q + 3 = omega arith in
      ap (λ n. next (at net p v).0 n (inbox_from net (at net p) v)) number ∙ work_step net ok forest q early (at net p) stand v is_vertex

  pub further_goes : (p f s : ℕ) → p ≡ FIRST_MERGE + (f * steps (sizes_of net) + s) → f < forest_count_of net → suc s < steps (sizes_of net) →
      HoldsAfter net p (state_after_choice net f s) (chose net f s) → NextIs net p (state_after_choice net f (suc s)) (chose net f (suc s))
  further_goes p f s e in_range below stand v is_vertex =
      comes net ok p (state_after_choice net f s) (chose net f s) stand (FIRST_MERGE + (f * steps (sizes_of net) + suc s)) (omega arith) v is_vertex
      ∙ further_next net ok forest f in_range s below v is_vertex

  first_gathered : (v : ℕ) → with_heard (state_while_reducing net 10 v) 0 (map (λ (w : ℕ). None) (neighbours net v)) ≡ state_before_choice net 0 0 v
  first_gathered v = ap (λ (m : ℕ). record (state_while_reducing net 10 v) { colour_before = colours_after net 0 v; merged = m; chosen = empty })
      (sym (nothing_merged net 0 v)) ∙
      ap (λ (set : FinSet nat_cmp). record (state_before_choice net 0 0 v) { chosen = set }) (empty_set net 0 v)

  pub first_goes : (p : ℕ) → p ≡ 12 → 0 < forest_count_of net → HoldsAfter net p (state_while_reducing net 10) (tells net 10) →
      NextIs net p (state_after_choice net 0 0) (chose net 0 0)
  first_goes p e some stand v is_vertex =
      comes net ok p (state_while_reducing net 10) (tells net 10) stand (FIRST_MERGE + (0 * steps (sizes_of net) + 0)) (omega arith) v is_vertex
      ∙ first_next net ok forest 0 some (state_while_reducing net 10 v) v is_vertex (first_gathered v) refl refl

  -- the last step of a forest sends nothing
  pub silent_at_last : (f s v w : ℕ) → suc s ≡ steps (sizes_of net) → chose net f s w v ≡ None
  silent_at_last f s v w e =
      let test : (suc s == steps (sizes_of net)) ≡ true = eq-eqb (suc s) (steps (sizes_of net)) e in
      ap (λ (d : Bool). if step_in net f w == s then (if d then None else tells_chosen f (colours_after net (suc f) w) (role_of net w v)) else None) test
      ∙ none_if (step_in net f w == s)

  forest_gathered : (f s v : ℕ) → suc s ≡ steps (sizes_of net) → with_heard (state_after_choice net f s v) 0 (map (λ (w : ℕ). None) (neighbours net v))
      ≡ state_before_choice net (suc f) 0 v
  forest_gathered f s v e =
      ap (λ (m : ℕ). record (state_after_choice net f s v) { colour_before = m; merged = m; chosen = empty }) (all_merged net forest f s v e)
      ∙ (ap (λ (m : ℕ). record (state_after_choice net f s v) { colour_before = colours_after net (suc f) v; merged = m; chosen = empty })
      (sym (nothing_merged net (suc f) v))
      ∙ ap (λ (set : FinSet nat_cmp). record (state_before_choice net (suc f) 0 v) { chosen = set }) (empty_set net (suc f) v))

  pub forest_goes : (p f s : ℕ) → p ≡ FIRST_MERGE + (f * steps (sizes_of net) + s) → suc f < forest_count_of net → suc s ≡ steps (sizes_of net) →
      HoldsAfter net p (state_after_choice net f s) (chose net f s) → NextIs net p (state_after_choice net (suc f) 0) (chose net (suc f) 0)
  forest_goes p f s e in_range done stand v is_vertex =
      let product : suc f * steps (sizes_of net) ≡ f * steps (sizes_of net) + steps (sizes_of net) = omega arith in
      comes net ok p (state_after_choice net f s) (chose net f s) stand (FIRST_MERGE + (suc f * steps (sizes_of net) + 0)) (omega arith) v is_vertex
      ∙ (ap (λ inbox. next (state_after_choice net f s v) (FIRST_MERGE + (suc f * steps (sizes_of net) + 0)) inbox)
      (map-members (λ w. chose net f s w v) (λ w. None) (neighbours net v) (λ k h. silent_at_last f s v (neighbour_of net v k) done))
      ∙ first_next net ok forest (suc f) in_range (state_after_choice net f s v) v is_vertex (forest_gathered f s v done) refl refl)
