-- The order of the wires of one direction of a link, whatever they carry.
use Rattle.std.specs.Prelude.{◌≡◌, ℕ, ◌<◌, List, ◌∷◌, ◌++◌, Contains}
use Rattle.wires.specs.declared.wire.Wire.{Wire}
use Rattle.wires.specs.declared.wire.Wire.TheVariants.{Payload, Ack, Safe, Close}
use Rattle.wires.specs.Wires.{acks_of, payloads_of, safes_of}

-- What a wire may be that comes after these. The pulse of a safe, and of a payload, is the number of
-- safes before it, and there is one payload of a pulse at most; the pulses of acknowledgements rise; all
-- of them are below the last; close comes once there is a safe of each.
abbrev pub MayFollow : {M : Type 0} → ℕ → List (Wire M) → Wire M → Type 0
MayFollow last before (Payload q x) = (q ≡ safes_of before) × (q < last) × (Contains (payloads_of before) q → ⊥)
MayFollow last before (Ack q) = (q < last) × ((r : ℕ) → Contains (acks_of before) r → r < q)
MayFollow last before (Safe q) = (q ≡ safes_of before) × (q < last)
MayFollow last before Close = safes_of before ≡ last

-- each wire may follow those before it, and none comes after a close
abbrev pub IsInOrder : {M : Type 0} → ℕ → List (Wire M) → Type 0
IsInOrder {M} last wires = (before : List (Wire M)) (w : Wire M) (after : List (Wire M)) → wires ≡ before ++ (w ∷ after)
    → (Contains before Close → ⊥) × MayFollow last before w
