-- The synchronous run of the colouring, from Seed to the last pulse. The plan: ten pulses of work
-- (work_stands), then step after step of the merging (merge_goes), by whether a step is the first of the
-- run, the first of a later forest, or neither; so nothing is refused (all_fine), and the last step of
-- the last forest leaves the colours (ends).
use Rattle.std.proofs.Common.{◌≡◌, ℕ, zero, suc, ◌+◌, ◌-◌, ◌*◌, ◌/◌, ◌%◌, ◌<◌, ◌≤◌, List, refl, ap, sym, ◌∙◌, arith, subst}
use Rattle.std.specs.Prelude.{map, Option, None}
use Rattle.std.proofs.lemmas.Nat.{div-add-mod', div_below, mod_below}
use native.Mathlib.Decide.{dec_lt}
use Prim.{yes, no}
use Rattle.interference.specs.Net.{Net, IsNetwork, IsVertex, neighbours, neighbour_of, forest_count_of}
use Rattle.node_api.specs.Program.{sizes_of}
use Rattle.colour_rules.specs.declared.payload.Payload.{Payload}
use Rattle.colour_rules.specs.Node.{Node, steps, last}
use Rattle.colour_laws.specs.Colours.{colours_after, colours}
use Rattle.colour_laws.proofs.Expected.{state_while_reducing, tells, state_after_choice, chose, IsForest}
use Rattle.node_api.proofs.Inboxes.{map-members}
use Rattle.colour_laws.proofs.Steps.{all_merged}
use Rattle.colour_laws.proofs.Stands.{at, HoldsAfter, NextIs, NothingRefused, stand_next, fine_next}
use Rattle.colour_laws.proofs.Turns.{work_goes, further_goes, first_goes, silent_at_last, forest_goes}

-- From Seed on: `seeded` is what stands after pulse 2.
module _ (net : Net) (ok : IsNetwork net) (forest : IsForest net) (seeded : HoldsAfter net 2 (state_while_reducing net 0) (tells net 0)) where
  pub work_stands : (q : ℕ) → q ≤ 10 → HoldsAfter net (q + 2) (state_while_reducing net q) (tells net q)
  work_stands zero h = seeded
  work_stands (suc q) h =
      let number : suc (q + 2) ≡ suc q + 2 = omega arith in
      let next_one : HoldsAfter net (suc (q + 2)) (state_while_reducing net (suc q)) (tells net (suc q)) =
      stand_next net (q + 2) (state_while_reducing net (suc q)) (tells net (suc q)) (work_goes net ok forest (q + 2) q refl (omega arith)
      (work_stands q (omega arith))) in
      subst (λ (p : ℕ). HoldsAfter net p (state_while_reducing net (suc q)) (tells net (suc q))) number next_one

  pub work_fine : (q : ℕ) → q < 10 → NothingRefused net (q + 2)
  work_fine q h = fine_next net (q + 2) (state_while_reducing net (suc q)) (tells net (suc q))
      (work_goes net ok forest (q + 2) q refl h (work_stands q (omega arith)))

  -- after t + 1 steps of merging, the last of them step s of forest f
  pub merge_goes : (t f s : ℕ) → t ≡ f * steps (sizes_of net) + s → f < forest_count_of net → s < steps (sizes_of net) →
      NextIs net (12 + t) (state_after_choice net f s) (chose net f s)
  merge_goes zero zero zero e in_range below = first_goes net ok forest (12 + 0) (omega arith) in_range (work_stands 10 (omega arith))
  merge_goes zero zero (suc s) e in_range below = absurd (omega arith)
  merge_goes zero (suc f) s e in_range below = absurd (let product : suc f * steps (sizes_of net) ≡ f * steps (sizes_of net) + steps (sizes_of net) =
      omega arith in omega arith)
  merge_goes (suc t) f (suc s) e in_range below =
      let before : HoldsAfter net (suc (12 + t)) (state_after_choice net f s) (chose net f s) =
      stand_next net (12 + t) (state_after_choice net f s) (chose net f s) (merge_goes t f s (omega arith) in_range (omega arith)) in
      subst (λ (p : ℕ). NextIs net p (state_after_choice net f (suc s)) (chose net f (suc s))) (let number : suc (12 + t) ≡ 12 + suc t = omega arith in number)
      (further_goes net ok forest (suc (12 + t)) f s (omega arith) in_range below before)
  merge_goes (suc t) zero zero e in_range below = absurd (omega arith)
  merge_goes (suc t) (suc f) zero e in_range below =
      let s : ℕ = steps (sizes_of net) - 1 in
      let product : suc f * steps (sizes_of net) ≡ f * steps (sizes_of net) + steps (sizes_of net) = omega arith in
      let done : suc s ≡ steps (sizes_of net) = omega arith in
      let before : HoldsAfter net (suc (12 + t)) (state_after_choice net f s) (chose net f s) =
      stand_next net (12 + t) (state_after_choice net f s) (chose net f s) (merge_goes t f s (omega arith) (omega arith) (omega arith)) in
      subst (λ (p : ℕ). NextIs net p (state_after_choice net (suc f) 0) (chose net (suc f) 0)) (let number : suc (12 + t) ≡ 12 + suc t = omega arith in number)
      (forest_goes net ok forest (suc (12 + t)) f s (omega arith) in_range done before)

  -- No refusal between Seed and the last pulse.
  pub all_fine : (p : ℕ) → 2 ≤ p → p < last (sizes_of net) → NothingRefused net p
  all_fine p low high =
      elim (dec_lt p 12) [
        | yes work ↦ subst (λ (n : ℕ). NothingRefused net n) (let e : p - 2 + 2 ≡ p = omega arith in e) (work_fine (p - 2) (omega arith))
        | no merging ↦
            let w : ℕ = steps (sizes_of net) in
            let t : ℕ = p - 12 in
            let some : 0 < w = omega arith in
            let whole : t / w * w + t % w ≡ t = div-add-mod' t w in
            subst (λ (n : ℕ). NothingRefused net n) (let e : 12 + t ≡ p = omega arith in e)
            (fine_next net (12 + t) (state_after_choice net (t / w) (t % w)) (chose net (t / w) (t % w))
            (merge_goes t (t / w) (t % w) (sym whole) (div_below t w (forest_count_of net) some (omega arith)) (mod_below t w some)))
      ]

  ends : (u : ℕ) → forest_count_of net ≡ u → (v : ℕ) → IsVertex net v → ((at net (last (sizes_of net)) v).0.merged ≡ colours_after net u v) ×
      ((at net (last (sizes_of net)) v).1 ≡ map (λ w. None) (neighbours net v))
  unfolding colours_after
  ends zero e v is_vertex =
      let number : 10 + 2 ≡ last (sizes_of net) = let none : forest_count_of net * steps (sizes_of net) ≡ 0 * steps (sizes_of net) =
      ap (λ n. n * steps (sizes_of net)) e in omega arith in
      let stand : HoldsAfter net (last (sizes_of net)) (state_while_reducing net 10) (tells net 10) =
      subst (λ (p : ℕ). HoldsAfter net p (state_while_reducing net 10) (tells net 10)) number (work_stands 10 (omega arith)) in (
        ap (λ (pair : Node × List (Option Payload)). pair.0.merged) (stand v is_vertex),
        ap (λ (pair : Node × List (Option Payload)). pair.1) (stand v is_vertex),
      )
  ends (suc f) e v is_vertex =
      let w : ℕ = steps (sizes_of net) in
      let s : ℕ = w - 1 in
      let t : ℕ = f * w + s in
      let done : suc s ≡ w = omega arith in
      let product : suc f * w ≡ f * w + w = omega arith in
      let same : forest_count_of net * w ≡ suc f * w = ap (λ n. n * w) e in
      let number : suc (12 + t) ≡ last (sizes_of net) = omega arith in
      let stand : HoldsAfter net (last (sizes_of net)) (state_after_choice net f s) (chose net f s) =
      subst (λ (p : ℕ). HoldsAfter net p (state_after_choice net f s) (chose net f s)) number (stand_next net (12 + t) (state_after_choice net f s)
      (chose net f s) (merge_goes t f s refl (omega arith) (omega arith))) in (
        ap (λ (pair : Node × List (Option Payload)). pair.0.merged) (stand v is_vertex) ∙ all_merged net forest f s v done,
        ap (λ (pair : Node × List (Option Payload)). pair.1) (stand v is_vertex) ∙
            map-members (λ u. chose net f s v u) (λ u. None) (neighbours net v) (λ k h. silent_at_last net ok forest f s (neighbour_of net v k) v done),
      )

  -- At the last pulse each node's colour is the definition's, and nothing is sent.
  pub colour_is : (v : ℕ) → IsVertex net v → ((at net (last (sizes_of net)) v).0.merged ≡ colours net v) ×
      ((at net (last (sizes_of net)) v).1 ≡ map (λ w. None) (neighbours net v))
  colour_is v is_vertex = ends (forest_count_of net) refl v is_vertex
