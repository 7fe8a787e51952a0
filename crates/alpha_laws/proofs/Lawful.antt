-- What is kept of a link is a legal list.
use Rattle.std.proofs.Common.{◌≡◌, ℕ, suc, ◌<◌, Bool, true, false, List, [], ◌∷◌, ◌++◌, Option, Some, None, refl, sym, ap, ◌∙◌, append_assoc, append-nil}
use Rattle.std.proofs.Common.{arith, subst, ⊎_elim}
use Rattle.std.specs.Prelude.{is_some, nat_eq}
use Rattle.std.proofs.lemmas.Bool.{cases_eq, cases_Bool, eqb-true}
use Rattle.wires.specs.declared.wire.Wire.{Wire}
use Rattle.wires.specs.declared.wire.Wire.TheVariants.{Safe, Close}
use Rattle.wires.specs.Wires.{data_of, acks_of}
use Rattle.wires.specs.Streams.{sent_pulse, sent_pulses, payload_wire, rounds, stream, Legal}
use Rattle.alpha_core.specs.View.{Port}
use Rattle.wires.proofs.Wires.{begins_from}
use Rattle.alpha_laws.proofs.Cursor.{payloads_to, moves-append, follows-rest, closed-ends, payloads_to-grows}
use Rattle.alpha_laws.specs.Position.{Position, start_at, move, moves, Follows}
use Rattle.alpha_laws.specs.Kept.{emitted_to, taken_to, PortKept}
use Rattle.alpha_laws.proofs.Shown.{HasRest, data_to, data_to-grows, IsPlace, place_is, start_is, rounds_begin, pulses_begin}

-- beginnings, one from another
rest_from : {A : Type 0} (xs ys zs ws : List A) → xs ++ ys ≡ zs → HasRest zs ws → HasRest xs ws
rest_from xs ys zs ws e b = (ys ++ b.0, sym (append_assoc xs ys b.0) ∙ ap (λ l. l ++ b.0) e ∙ b.1)

rest_more : {A : Type 0} (xs ys zs : List A) → HasRest xs ys → HasRest xs (ys ++ zs)
rest_more xs ys zs b = (b.0 ++ zs, sym (append_assoc xs b.0 zs) ∙ ap (λ l. l ++ zs) b.1)

module _ {M : Type 0} (sends : ℕ → Option M) (last : ℕ) (c : Position) (is : IsPlace sends last c) where
  strict : c.paid ≡ true → c.safes < last
  strict paid = ⊎_elim (λ same. let none : c.paid ≡ false = is.full same in absurd cc) (λ ne. let le = is.most in omega arith) (cases_eq c.safes last)

  pub data_to_begins : HasRest (data_to sends c) (stream sends last)
  data_to_begins = ⊎_elim
      (λ shut.
      let same = is.ended shut in
      let none = is.full same in
      rw (shut, none, same) ([], append-nil _))
      (λ ajar. rw ajar (⊎_elim
      (λ paid. rw paid (rest_more _ (rounds sends last) (Close ∷ []) (rest_from _ (Safe c.safes ∷ []) (rounds sends (suc c.safes)) (rounds sends last)
      (ap (λ l. rounds sends c.safes ++ l ++ (Safe c.safes ∷ [])) (append-nil _) ∙
      append_assoc (rounds sends c.safes) (payload_wire c.safes (sends c.safes)) (Safe c.safes ∷ []))
      (rounds_begin sends last (suc c.safes) last (strict paid)))))
      (λ unpaid. rw unpaid (rest_more _ (rounds sends last) (Close ∷ []) (rest_from _ [] (rounds sends c.safes) (rounds sends last) (append-nil _ ∙
      append-nil _) (rounds_begin sends last c.safes last is.most))))
      (cases_Bool c.paid)))
      (cases_Bool c.closed)

  pub data_to_whole : c.closed ≡ true → data_to sends c ≡ stream sends last
  data_to_whole shut =
      let same = is.ended shut in
      let none = is.full same in
      rw (shut, none, same) refl

  pub payloads_to_begins : HasRest (payloads_to sends c) (sent_pulses sends last)
  payloads_to_begins = ⊎_elim
      (λ paid. rw paid (rest_from _ [] (sent_pulses sends (suc c.safes)) (sent_pulses sends last) (append-nil _ ∙
      ap (λ l. sent_pulses sends c.safes ++ l) (one (sends c.safes) (is.sent paid))) (pulses_begin sends last (suc c.safes) last (strict paid))))
      (λ unpaid. rw unpaid (rest_from _ [] (sent_pulses sends c.safes) (sent_pulses sends last) (append-nil _ ∙
      append-nil _) (pulses_begin sends last c.safes last is.most)))
      (cases_Bool c.paid)
    where
      one : (o : Option M) → is_some o ≡ true → c.safes ∷ [] ≡ sent_pulse c.safes o
      one None e = absurd cc
      one (Some x) e = refl

  pub payloads_to_whole : c.safes ≡ last → payloads_to sends c ≡ sent_pulses sends last
  payloads_to_whole same = let none = is.full same in rw (none, same) (append-nil _)

-- what a node has emitted on a port is legal
module _ {M : Type 0} {last : ℕ} {own other : ℕ → Option M} {p : ℕ} {said : Bool} {port : Port M} {emitted taken : List (Wire M)}
    (kept : PortKept last own other p said port emitted taken) where
  place_emitted : IsPlace own last (emitted_to last p said (own p))
  place_emitted = subst (λ c. IsPlace own last c) kept.emitted_at (place_is own last start_at emitted kept.emits (start_is own last))

  pub place_taken : IsPlace other last (taken_to p port)
  place_taken = subst (λ c. IsPlace other last c) kept.taken_at (place_is other last start_at taken kept.takes (start_is other last))

  pub data_emitted : data_of emitted ≡ data_to own (emitted_to last p said (own p))
  data_emitted = data_to-grows own last start_at emitted kept.emits (start_is own last) ∙ ap (λ c. data_to own c) kept.emitted_at

  acks_emitted : acks_of emitted ≡ payloads_to other (taken_to p port)
  acks_emitted = kept.acknowledges ∙ payloads_to-grows other last start_at taken kept.takes ∙ ap (λ c. payloads_to other c) kept.taken_at

  pub legal_emitted : Legal last own other emitted
  legal_emitted = record {
    wires =
        let more = subst (λ l. HasRest l (stream own last)) (sym data_emitted) (data_to_begins own last _ place_emitted) in
        begins_from (data_of emitted) more.0 (stream own last) more.1;
    acks =
        let more = subst (λ l. HasRest l (sent_pulses other last)) (sym acks_emitted) (payloads_to_begins other last _ place_taken) in
        begins_from (acks_of emitted) more.0 (sent_pulses other last) more.1;
    close = λ xs ys is.
        let all : Follows own last start_at (xs ++ (Close ∷ ys)) = subst (λ l. Follows own last start_at l) is kept.emits in
        let rest = follows-rest own last start_at xs (Close ∷ ys) all in
        let none : ys ≡ [] = closed-ends own last (move {M = M} (moves start_at xs) Close) ys refl rest.1 in
        let shut : true ≡ nat_eq p last = ap (λ l. (moves (moves start_at xs) (Close ∷ l)).closed) (sym none) ∙
        ap (λ c. c.closed) (sym (moves-append start_at xs (Close ∷ ys)))
        ∙ ap (λ l. (moves start_at l).closed) (sym is) ∙ ap (λ c. c.closed) kept.emitted_at in
        let at_last : p ≡ last = eqb-true p last (sym shut) in
        let most = place_taken.most in
        (none, data_emitted ∙ data_to_whole own last _ place_emitted (sym shut), acks_emitted ∙ payloads_to_whole other last _ place_taken (omega arith));
  }
