use Rattle.std.proofs.Common.{[], ◌∷◌, ◌++◌, ap, arith, refl}
use Rattle.wires.specs.declared.wire.Wire.TheVariants.{Payload, Safe}
use Rattle.checks.proofs.SmallNets.{first_front}
use Rattle.checks.proofs.Rising.{none_put}
use Rattle.checks.proofs.linked_counters.comes.Goals as goal

pub try_put-requires-clause-legal : goal.try_put-requires-clause-legal
try_put-requires-clause-legal c κs =
    let made = c.requires.end in
    first_front (Payload 0 (record { 0 = 1 }) ∷ []) (Safe 0 ∷ []) _ _ refl (ap (λ l. l ++ Payload 0 (record { 0 = 1 }) ∷ []) made.put) made.named

pub try_put-requires-clause-above : goal.try_put-requires-clause-above
try_put-requires-clause-above c = let none = none_put _ c.requires.end.put in omega (arith, none, c.requires.stamp)
