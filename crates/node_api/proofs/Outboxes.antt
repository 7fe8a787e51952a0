-- An outbox that is told port by port, and one that has the same at each port.
use Rattle.std.proofs.Common.{◌≡◌, ℕ, ◌<◌, ◌≤◌, List, [], ◌∷◌, length, refl, ap, sym, ◌∙◌, arith, get_or}
use Rattle.std.specs.Prelude.{map, replicate, Option, None}
use Rattle.std.proofs.lemmas.List.{ext_get_or, get_or-map, length-map}
use Rattle.node_api.specs.Boxes.{at_port}

-- The ports before i have been told what `tell` says of their entries, the others nothing; d stands for an entry that
-- there isn't.
pub record Told {A M : Type 0} (tell : A → Option M) (d : A) (entries : List A) (i : ℕ) (out : List (Option M)) : Type 0 where
  pub size : length out ≡ length entries
  pub before : (k : ℕ) → k < i → at_port out k ≡ tell (get_or entries k d)
  pub after : (k : ℕ) → i ≤ k → k < length entries → at_port out k ≡ None

-- past the last port all have been told
pub told-all : {A M : Type 0} {tell : A → Option M} {d : A} {entries : List A} {i : ℕ} {out : List (Option M)} → Told tell d entries i out →
    length entries ≤ i → out ≡ map tell entries
told-all {tell = tell} {d = d} {entries = entries} {out = out} told past =
    ext_get_or None out (map tell entries) (told.size ∙ sym (length-map entries tell))
    (λ k h. let within : k < length entries = omega (arith, told.size) in told.before k (omega arith) ∙ sym (get_or-map tell entries k d None within))

-- one thing for each entry of a list
pub same-for_all : {X Y : Type 0} (y : Y) (xs : List X) → replicate (length xs) y ≡ map (λ x. y) xs
same-for_all y [] = refl
same-for_all y (x ∷ xs) = ap (λ rest. y ∷ rest) (same-for_all y xs)
