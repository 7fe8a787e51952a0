-- An out-list whose payloads are kept apart from its wires.
use Rattle.std.specs.Prelude.{⊤, ◌≡◌, ◌≤◌, ℕ, ◌+◌, Option, None, Some, List, [], ◌∷◌, All, count_by, length, map}
use Rattle.wires.specs.declared.wire.Wire.{Wire}
use Rattle.wires.specs.declared.wire.Wire.TheVariants as wire
use Rattle.alpha_core.specs.declared.bare.BareWire.{BareWire}
use Rattle.alpha_core.specs.declared.bare.BareWire.TheVariants.{Payload, Ack, Safe, Close}
use Rattle.alpha_core.specs.Rows.{is_over}

-- how many payloads a wire has
abbrev pub payload_count : BareWire → ℕ
payload_count (Payload pulse) = 1
payload_count (Ack pulse) = 0
payload_count (Safe pulse) = 0
payload_count Close = 0

-- how many payloads wires have
abbrev pub payloads_in : List BareWire → ℕ
payloads_in [] = 0
payloads_in (bare ∷ bares) = payload_count bare + payloads_in bares

module _ {M : Type 0} where
  -- the wires with their payloads, in order; a payload wire whose payload is missing is left out
  abbrev pub wires_of : List BareWire → List M → List (Wire M)
  wires_of [] payloads = []
  wires_of (Payload pulse ∷ bares) [] = wires_of bares []
  wires_of (Payload pulse ∷ bares) (payload ∷ payloads) = wire.Payload pulse payload ∷ wires_of bares payloads
  wires_of (Ack pulse ∷ bares) payloads = wire.Ack pulse ∷ wires_of bares payloads
  wires_of (Safe pulse ∷ bares) payloads = wire.Safe pulse ∷ wires_of bares payloads
  wires_of (Close ∷ bares) payloads = wire.Close ∷ wires_of bares payloads

  -- a wire without its payload
  abbrev pub bare_of : Wire M → BareWire
  bare_of (wire.Payload pulse payload) = Payload pulse
  bare_of (wire.Ack pulse) = Ack pulse
  bare_of (wire.Safe pulse) = Safe pulse
  bare_of wire.Close = Close

  -- the payload of a wire
  abbrev pub payload_of : Wire M → List M
  payload_of (wire.Payload pulse payload) = payload ∷ []
  payload_of (wire.Ack pulse) = []
  payload_of (wire.Safe pulse) = []
  payload_of wire.Close = []

  -- a payload and those behind it, if there is one
  abbrev pub led_by : Option M → List M → List M
  led_by None payloads = []
  led_by (Some payload) payloads = payload ∷ payloads

  -- the payloads in two places
  abbrev pub payloads_of : Option M → Option M → List M
  payloads_of a b = led_by a (led_by b [])

  -- how many payloads, and how many safes, wires have
  abbrev pub payloads_out : List (Wire M) → ℕ
  payloads_out [] = 0
  payloads_out (w ∷ out) = length (payload_of w) + payloads_out out

  abbrev pub safes_out : List (Wire M) → ℕ
  safes_out [] = 0
  safes_out (wire.Payload pulse payload ∷ out) = safes_out out
  safes_out (wire.Ack pulse ∷ out) = safes_out out
  safes_out (wire.Safe pulse ∷ out) = 1 + safes_out out
  safes_out (wire.Close ∷ out) = safes_out out

  -- a wire that comes behind so many payloads has none, or is the second at most
  abbrev pub PayloadFits : Wire M → ℕ → Type 0
  PayloadFits (wire.Payload pulse payload) n = n ≤ 1
  PayloadFits (wire.Ack pulse) n = ⊤
  PayloadFits (wire.Safe pulse) n = ⊤
  PayloadFits wire.Close n = ⊤

-- Out-lists, each kept as something of type X that has wires without payloads, and their payloads.
module _ {X M : Type 0} (bares : X → List BareWire) (payloads : X → List M) where
  abbrev pub out_of : X → List (Wire M)
  out_of x = wires_of (bares x) (payloads x)

  abbrev pub outs_of : List X → List (List (Wire M))
  outs_of xs = map out_of xs

  -- each payload that a port's wires should have is there
  abbrev pub IsWhole : X → Type 0
  IsWhole x = payloads_in (bares x) ≡ length (payloads x)

  -- how many lists have more than so many wires
  abbrev pub overs_of : ℕ → List X → ℕ
  overs_of most xs = count_by (λ x. is_over most (out_of x)) xs

  -- The counts are of the lists without room for a wire more, and of those with a wire.
  pub record AreOutLists (xs : List X) (full busy : ℕ) : Type 0 where
    pub whole : All IsWhole xs
    pub full_is : full ≡ overs_of 3 xs
    pub busy_is : busy ≡ overs_of 0 xs
