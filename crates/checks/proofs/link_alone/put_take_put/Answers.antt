use Rattle.std.proofs.Common.{[], ◌∷◌, ◌++◌, ap, arith, refl, ◌∙◌}
use Rattle.wires.specs.declared.wire.Wire.TheVariants.{Payload, Safe}
use Rattle.checks.proofs.SmallNets.{first_front}
use Rattle.checks.proofs.Rising.{none_put, one_more}
use Rattle.checks.proofs.link_alone.put_take_put.Goals as goal

pub put-requires-clause-legal : goal.put-requires-clause-legal
put-requires-clause-legal g c κs within =
    let made = c.requires.put_end in
    first_front (Payload 0 (record { 0 = 1 }) ∷ []) (Safe 0 ∷ []) _ _ refl (ap (λ l. l ++ Payload 0 (record { 0 = 1 }) ∷ []) made.put) made.named

pub put-requires-2-clause-legal : goal.put-requires-2-clause-legal
put-requires-2-clause-legal g c κs within =
    let made = c.requires.put_end in
    let first = c.in-Ok.ensures.put ∙ ap (λ l. l ++ Payload 0 (record { 0 = 1 }) ∷ []) made.put in
    first_front (Payload 0 (record { 0 = 1 }) ∷ Safe 0 ∷ []) [] _ _ refl (ap (λ l. l ++ Safe 0 ∷ []) first)
    (c.put.ensures.end.1 ∙ made.named)

pub put-requires-clause-above : goal.put-requires-clause-above
put-requires-clause-above g c κs within = let none = none_put _ c.requires.put_end.put in omega (arith, none)

pub put-requires-2-clause-above : goal.put-requires-2-clause-above
put-requires-2-clause-above g c κs within = let last = one_more _ _ _ c.in-Ok.ensures.stamped in omega (arith, last)
