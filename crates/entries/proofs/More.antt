-- What one entry more at the end of the list leaves of it.
use Rattle.std.proofs.Common.{◌≡◌, ℕ, ◌+◌, ◌≤◌, List, [], ◌∷◌, ◌++◌, length, drop, map, refl, sym, ap, ap₂, ◌∙◌, arith}
use Rattle.std.proofs.lemmas.List.{append-nil, append_assoc, drop-append-le, length-append, length-drop, length-map}
use Rattle.entries.specs.declared.entry.Entry.{Entry}
use Rattle.entries.specs.declared.entry.Entry.TheVariants as entry
use Rattle.entries.specs.declared.bare.BareEntry.{BareEntry}
use Rattle.entries.specs.declared.bare.Act.{Act}
use Rattle.entries.specs.declared.bare.Act.TheVariants.{Pulse, Put, Take}
use Rattle.entries.specs.declared.bare.WireKind.{WireKind}
use Rattle.entries.specs.declared.bare.WireKind.TheVariants.{Payload, Ack, Safe, Close}
use Rattle.entries.specs.Bare.{entries_of, entry_of, payloads_of_kind, payloads_of_act, payloads_of_entries, wire_of}
use Rattle.entries.specs.Rows.{bare_of, stamp_each, stamped_entry}
use Rattle.entries.specs.declared.rows.StampedEntry.{StampedEntry}

module _ {M : Type 0} where
  -- further payloads behind don't matter
  wire-same : (kind : WireKind) (pulse : ℕ) (xs ys : List M) → payloads_of_kind kind ≤ length xs → wire_of kind pulse (xs ++ ys) ≡ wire_of kind pulse xs
  wire-same Payload pulse [] ys le = absurd (omega arith)
  wire-same Payload pulse (x ∷ xs) ys le = refl
  wire-same Ack pulse xs ys le = refl
  wire-same Safe pulse xs ys le = refl
  wire-same Close pulse xs ys le = refl

  entry-same : (act : Act) (vertex pulse : ℕ) (xs ys : List M) → payloads_of_act act ≤ length xs
      → entry_of act vertex pulse (xs ++ ys) ≡ entry_of act vertex pulse xs
  entry-same Pulse vertex pulse xs ys le = refl
  entry-same (Put kind) vertex pulse xs ys le = ap (map (λ w. entry.Put vertex w)) (wire-same kind pulse xs ys le)
  entry-same (Take kind) vertex pulse xs ys le = ap (map (λ w. entry.Take vertex w)) (wire-same kind pulse xs ys le)

  -- a wire and an entry are one
  wire-one : (kind : WireKind) (pulse : ℕ) (xs : List M) → payloads_of_kind kind ≤ length xs → length (wire_of kind pulse xs) ≡ 1
  wire-one Payload pulse [] le = absurd (omega arith)
  wire-one Payload pulse (x ∷ xs) le = refl
  wire-one Ack pulse xs le = refl
  wire-one Safe pulse xs le = refl
  wire-one Close pulse xs le = refl

  entry-one : (act : Act) (vertex pulse : ℕ) (xs : List M) → payloads_of_act act ≤ length xs → length (entry_of act vertex pulse xs) ≡ 1
  entry-one Pulse vertex pulse xs le = refl
  entry-one (Put kind) vertex pulse xs le = length-map (wire_of kind pulse xs) _ ∙ wire-one kind pulse xs le
  entry-one (Take kind) vertex pulse xs le = length-map (wire_of kind pulse xs) _ ∙ wire-one kind pulse xs le

  -- there are as many entries as bare ones
  pub entries-long : (bares : List BareEntry) (xs : List M) → payloads_of_entries bares ≡ length xs → length (entries_of bares xs) ≡ length bares
  entries-long [] xs fits = refl
  entries-long (b ∷ bs) xs fits =
      let k = payloads_of_act b.act in
      let rest : payloads_of_entries bs ≡ length (drop k xs) = omega (arith, fits, length-drop k xs) in
      let one = entry-one b.act b.vertex b.pulse xs (omega (arith, fits)) in
      omega (arith, length-append (entry_of b.act b.vertex b.pulse xs) (entries_of bs (drop k xs)), one, entries-long bs (drop k xs) rest)

  -- one entry more, with its payload if it has one
  pub entries-more : (bares : List BareEntry) (xs ys : List M) (bare : BareEntry) (new : Entry M) → payloads_of_entries bares ≡ length xs
      → entry_of bare.act bare.vertex bare.pulse ys ≡ new ∷ [] → entries_of (bares ++ bare ∷ []) (xs ++ ys) ≡ entries_of bares xs ++ new ∷ []
  entries-more [] [] ys bare new fits is = append-nil (entry_of bare.act bare.vertex bare.pulse ys) ∙ is
  entries-more [] (x ∷ xs) ys bare new fits is = absurd (omega (arith, fits))
  entries-more (b ∷ bs) xs ys bare new fits is =
      let k = payloads_of_act b.act in
      let le : k ≤ length xs = omega (arith, fits) in
      let rest : payloads_of_entries bs ≡ length (drop k xs) = omega (arith, fits, length-drop k xs) in
      let first = entry_of b.act b.vertex b.pulse xs in
      ap₂ (λ e l. e ++ l) (entry-same b.act b.vertex b.pulse xs ys le)
      (ap (entries_of (bs ++ bare ∷ [])) (drop-append-le k xs ys le) ∙ entries-more bs (drop k xs) ys bare new rest is)
      ∙ sym (append_assoc first (entries_of bs (drop k xs)) (new ∷ []))

pub payloads-more : (bares : List BareEntry) (bare : BareEntry)
    → payloads_of_entries (bares ++ bare ∷ []) ≡ payloads_of_entries bares + payloads_of_act bare.act
payloads-more [] bare = omega arith
payloads-more (b ∷ bs) bare = omega (arith, payloads-more bs bare)

module _ {M : Type 0} where
  -- entries are those of two lists, if there is a stamp for each; and one more of both
  pub stamp_each-bare : (stamps : List ℕ) (entries : List (Entry M)) → length stamps ≡ length entries → bare_of (stamp_each stamps entries) ≡ entries
  stamp_each-bare [] [] long = refl
  stamp_each-bare [] (b ∷ entries) long = absurd (omega (arith, long))
  stamp_each-bare (a ∷ stamps) [] long = absurd (omega (arith, long))
  stamp_each-bare (a ∷ stamps) (b ∷ entries) long = ap (λ l. b ∷ l) (stamp_each-bare stamps entries (omega (arith, long)))

  pub stamp_each-more : (stamps : List ℕ) (entries : List (Entry M)) (s : ℕ) (e : Entry M) → length stamps ≡ length entries
      → stamp_each (stamps ++ s ∷ []) (entries ++ e ∷ []) ≡ stamp_each stamps entries ++ stamped_entry s e ∷ []
  stamp_each-more [] [] s e long = refl
  stamp_each-more [] (b ∷ entries) s e long = absurd (omega (arith, long))
  stamp_each-more (a ∷ stamps) [] s e long = absurd (omega (arith, long))
  stamp_each-more (a ∷ stamps) (b ∷ entries) s e long = ap (λ l. stamped_entry a b ∷ l) (stamp_each-more stamps entries s e (omega (arith, long)))

  -- there is a stamp for each bare entry
  module _ (stamps : List ℕ) (bares : List BareEntry) (payloads : List M) (items : List (StampedEntry M)) (fits : payloads_of_entries bares ≡ length payloads)
      (long : length stamps ≡ length bares) (is : stamp_each stamps (entries_of bares payloads) ≡ items) where
    pub stamps-long : length stamps ≡ length (entries_of bares payloads)
    stamps-long = long ∙ sym (entries-long bares payloads fits)

    pub items-bare : entries_of bares payloads ≡ bare_of items
    items-bare = sym (stamp_each-bare stamps (entries_of bares payloads) stamps-long) ∙ ap bare_of is

    pub items-long : length bares ≡ length items
    items-long = sym (entries-long bares payloads fits) ∙ ap (λ l. length l) items-bare ∙ length-map items (λ e. e.entry)

    -- one stamp more, one bare entry, and its payload if it has one
    pub items-more : (stamps' : List ℕ) (bares' : List BareEntry) (payloads' ys : List M) (s : ℕ) (bare : BareEntry) (new : Entry M)
        → stamps' ≡ stamps ++ s ∷ [] → bares' ≡ bares ++ bare ∷ [] → payloads' ≡ payloads ++ ys
        → entry_of bare.act bare.vertex bare.pulse ys ≡ new ∷ [] → stamp_each stamps' (entries_of bares' payloads') ≡ items ++ stamped_entry s new ∷ []
    items-more stamps' bares' payloads' ys s bare new more_stamps more_bares more_payloads one =
        ap₂ stamp_each more_stamps (ap₂ entries_of more_bares more_payloads ∙ entries-more bares payloads ys bare new fits one)
        ∙ stamp_each-more stamps (entries_of bares payloads) s new stamps-long ∙ ap (λ l. l ++ stamped_entry s new ∷ []) is
