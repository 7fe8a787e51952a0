use Rattle.std.proofs.Common.{◌≡◌, ◌≤◌, ◌<◌, ◌+◌, ℕ, suc, Bool, false, arith}
use Rattle.std.specs.Prelude.{◌↔◌, IsTrue, not}
use Rattle.std.proofs.lemmas.Bool.{ltb-true}
use Rattle.colour_base.proofs.LeastLemmas.{least-within}
use Rattle.colour_rules.proofs.Choosing.{least_free_colour-high}
use Rattle.forest_merge.specs.Free.{HasFree, least_free_colour}
use Rattle.recolouring.proofs.node.first_free.Goals as goal

-- if none is free, it is one more than the limit
full : (limit : ℕ) (is_taken : ℕ → Bool) → (IsTrue false ↔ HasFree limit is_taken) → limit + 1 ≡ least_free_colour limit is_taken
full limit is_taken h =
    let above : limit < least_free_colour limit is_taken = ltb-true limit (least_free_colour limit is_taken) (least_free_colour-high limit is_taken false h) in
    let most : least_free_colour limit is_taken ≤ suc limit = least-within (λ c. not (is_taken c)) (suc limit) in
    omega (arith, above, most)

pub returns : goal.returns
returns c = full _ _ c.if-has_free.ensures
