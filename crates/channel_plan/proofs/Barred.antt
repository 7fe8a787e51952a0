-- Channels that are barred at a vertex: the test of a channel, and the list of barred colours.
use Rattle.std.proofs.Common.{◌≡◌, ◌<◌, ◌+◌, ◌==◌, ◌||◌, ℕ, suc, zero, Bool, true, false, List, [], ◌∷◌, arith, get_or, length, refl, sym}
use Rattle.std.proofs.lemmas.Bool.{eq-eqb, eqb-true}
use Rattle.std.specs.List.{Contains, list_any}
use Rattle.interference.specs.Net.{IsBarred, Net, bars_of}
use Rattle.channel_plan.specs.Checked.{is_channel_barred}

colour-of : (xs : List ℕ) (channel : ℕ) → list_any (λ c. c + 1 == channel) xs ≡ true → (c : ℕ) × Contains xs c × (channel ≡ c + 1)
colour-of [] channel e = absurd cc
colour-of (x ∷ xs) channel e = by-first (x + 1 == channel) refl e (colour-of xs channel)
  where
    by-first : (b : Bool) → (x + 1 == channel) ≡ b → list_any (λ c. c + 1 == channel) (x ∷ xs) ≡ true →
        (list_any (λ c. c + 1 == channel) xs ≡ true → (c : ℕ) × Contains xs c × (channel ≡ c + 1)) →
        (c : ℕ) × Contains (x ∷ xs) c × (channel ≡ c + 1)
    by-first true t e more = (x, (0, omega arith, refl), sym (eqb-true (x + 1) channel t))
    by-first false t e more =
        let (c, (i, below, at), is) = more (rw t at e) in
        (c, (suc i, omega (arith, below), at), is)

channel-of : (xs : List ℕ) (c i : ℕ) → i < length xs → get_or xs i c ≡ c → list_any (λ x. x + 1 == c + 1) xs ≡ true
channel-of [] c i below at = absurd (omega (arith, below))
channel-of (x ∷ xs) c zero below at = rw (eq-eqb (x + 1) (c + 1) (omega (arith, at))) refl
channel-of (x ∷ xs) c (suc i) below at = rw (channel-of xs c i (omega (arith, below)) at) (any-or (x + 1 == c + 1))
  where
    any-or : (b : Bool) → (b || true) ≡ true
    any-or true = refl
    any-or false = refl

-- a barred colour plus one is a barred channel
pub barred-channel : (net : Net) (v c : ℕ) → IsBarred net v c → is_channel_barred net v (c + 1) ≡ true
barred-channel net v c (i, below, at) = channel-of (bars_of net v) c i below at

-- and a barred channel is one
pub channel-barred : (net : Net) (v channel : ℕ) → is_channel_barred net v channel ≡ true → (c : ℕ) × IsBarred net v c × (channel ≡ c + 1)
channel-barred net v channel e = colour-of (bars_of net v) channel e

-- a channel whose colour isn't barred, or which is 0, is not
pub unbarred-channel : (net : Net) (v channel : ℕ) → ((c : ℕ) → channel ≡ c + 1 → IsBarred net v c → ⊥) → is_channel_barred net v channel ≡ false
unbarred-channel net v channel none = by-test (is_channel_barred net v channel) refl
  where
    by-test : (b : Bool) → is_channel_barred net v channel ≡ b → is_channel_barred net v channel ≡ false
    by-test false e = e
    by-test true e = let (c, barred, is) = channel-barred net v channel e in absurd (none c is barred)
