-- Entries without their payloads, and the payloads in order.
use Rattle.std.specs.Prelude.{ℕ, ◌+◌, List, [], ◌∷◌, ◌++◌, drop, map}
use Rattle.wires.specs.declared.wire.Wire.{Wire}
use Rattle.wires.specs.declared.wire.Wire.TheVariants as wire
use Rattle.entries.specs.declared.entry.Entry.{Entry}
use Rattle.entries.specs.declared.entry.Entry.TheVariants as entry
use Rattle.entries.specs.declared.bare.BareEntry.{BareEntry}
use Rattle.entries.specs.declared.bare.Act.{Act}
use Rattle.entries.specs.declared.bare.Act.TheVariants.{Pulse, Put, Take}
use Rattle.entries.specs.declared.bare.WireKind.{WireKind}
use Rattle.entries.specs.declared.bare.WireKind.TheVariants.{Payload, Ack, Safe, Close}

-- how many payloads a wire has
abbrev pub payloads_of_kind : WireKind → ℕ
payloads_of_kind Payload = 1
payloads_of_kind Ack = 0
payloads_of_kind Safe = 0
payloads_of_kind Close = 0

-- how many payloads the entry of an act has
abbrev pub payloads_of_act : Act → ℕ
payloads_of_act Pulse = 0
payloads_of_act (Put kind) = payloads_of_kind kind
payloads_of_act (Take kind) = payloads_of_kind kind

-- how many payloads entries have
abbrev pub payloads_of_entries : List BareEntry → ℕ
payloads_of_entries [] = 0
payloads_of_entries (bare ∷ bares) = payloads_of_act bare.act + payloads_of_entries bares

module _ {M : Type 0} where
  -- the wire of a kind, with the first of the payloads; none if it should have one, and there is none
  abbrev pub wire_of : WireKind → ℕ → List M → List (Wire M)
  wire_of Payload pulse [] = []
  wire_of Payload pulse (payload ∷ payloads) = wire.Payload pulse payload ∷ []
  wire_of Ack pulse payloads = wire.Ack pulse ∷ []
  wire_of Safe pulse payloads = wire.Safe pulse ∷ []
  wire_of Close pulse payloads = wire.Close ∷ []

  -- the entry of an act, with the first of the payloads
  abbrev pub entry_of : Act → ℕ → ℕ → List M → List (Entry M)
  entry_of Pulse vertex pulse payloads = entry.Pulse pulse ∷ []
  entry_of (Put kind) vertex pulse payloads = map (λ w. entry.Put vertex w) (wire_of kind pulse payloads)
  entry_of (Take kind) vertex pulse payloads = map (λ w. entry.Take vertex w) (wire_of kind pulse payloads)

  -- the entries, with the payloads in order
  abbrev pub entries_of : List BareEntry → List M → List (Entry M)
  entries_of [] payloads = []
  entries_of (bare ∷ bares) payloads =
      entry_of bare.act bare.vertex bare.pulse payloads ++ entries_of bares (drop (payloads_of_act bare.act) payloads)
