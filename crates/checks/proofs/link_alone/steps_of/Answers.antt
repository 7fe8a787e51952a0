use Rattle.std.proofs.Common.{[], ◌∷◌, ◌++◌, ap, arith, refl, ◌∙◌}
use Rattle.wires.specs.StampedWires.{last_stamp, wires_of}
use Rattle.wires.specs.declared.wire.Wire.TheVariants.{Payload, Safe}
use Rattle.checks.proofs.SmallNets.{legal_begin}
use Rattle.checks.proofs.Rising.{none_put, one_more}
use Rattle.checks.proofs.link_alone.steps_of.Goals as goal

pub put-requires-clause-legal : goal.put-requires-clause-legal
put-requires-clause-legal g c κs within =
    let made = c.requires.put_end in
    legal_begin _ _ (Payload 0 c.args.payload ∷ []) (Safe 0 ∷ []) _ _ _ c.requires.legal refl (ap (λ l. l ++ Payload 0 c.args.payload ∷ []) made.put) made.named

pub put-requires-2-clause-legal : goal.put-requires-2-clause-legal
put-requires-2-clause-legal g c κs within =
    let made = c.requires.put_end in
    let first = c.in-Ok.ensures.put ∙ ap (λ l. l ++ Payload 0 c.args.payload ∷ []) made.put in
    legal_begin _ _ (Payload 0 c.args.payload ∷ Safe 0 ∷ []) [] _ _ _ c.requires.legal refl (ap (λ l. l ++ Safe 0 ∷ []) first)
    (c.put.ensures.end.1 ∙ made.named)

pub put-requires-3-clause-legal : goal.put-requires-3-clause-legal
put-requires-3-clause-legal g c κs within =
    let made = c.requires.put_end in
    let first = c.in-Ok.ensures.put ∙ ap (λ l. l ++ Payload 0 c.args.payload ∷ []) made.put in
    legal_begin _ _ (Payload 0 c.args.payload ∷ Safe 0 ∷ []) [] _ _ _ c.requires.legal refl
    (ap (λ l. l ++ Safe 0 ∷ []) (ap (λ l. wires_of l) c.in-Err-put.ensures.unchanged ∙ first))
    (c.put-2.ensures.end.1 ∙ c.put.ensures.end.1 ∙ made.named)

pub put-requires-clause-above : goal.put-requires-clause-above
put-requires-clause-above g c κs within = let none = none_put _ c.requires.put_end.put in omega (arith, none)

pub put-requires-2-clause-above : goal.put-requires-2-clause-above
put-requires-2-clause-above g c κs within = let last = one_more _ _ _ c.in-Ok.ensures.stamped in omega (arith, last)

pub put-requires-3-clause-above : goal.put-requires-3-clause-above
put-requires-3-clause-above g c κs within =
    let last = ap (λ l. last_stamp l) c.in-Err-put.ensures.unchanged ∙ one_more _ _ _ c.in-Ok.ensures.stamped in omega (arith, last)
