-- Two neighbours who keep their links: how far apart they are, what lies between them, and that the next wire is due.
use Rattle.std.proofs.Common.{◌≡◌, ℕ, suc, ◌+◌, ◌*◌, ◌≤◌, Bool, true, false, List, [], ◌++◌, Option, Some, None, length, refl, sym, ap, ◌∙◌, add-one, add-zero}
use Rattle.std.proofs.Common.{append-nil, length-append, arith, ⊎_elim, ne_eqb, eq-eqb}
use Rattle.std.specs.Prelude.{is_some, if◌then◌else◌, nat_eq}
use Rattle.std.proofs.lemmas.Bool.{cases_eq, false_from_ne_true}
use Rattle.wires.specs.declared.wire.Wire.{Wire}
use Rattle.wires.specs.Wires.{acks_of, payloads_of}
use Rattle.wires.specs.Streams.{sent_pulse, sent_pulses}
use Rattle.alpha_core.specs.View.{Port, bit, safes_at}
use Rattle.wires.proofs.Wires.{acks-append, payloads-append}
use Rattle.alpha_laws.proofs.Slots.{bit_le}
use Rattle.alpha_laws.proofs.Cursor.{place, payloads_to, moves-append, place-grows, follows-rest, payloads_to-grows, length-counts}
use Rattle.alpha_laws.specs.Position.{start_at, moves, Follows}
use Rattle.alpha_laws.specs.Kept.{emitted_to, taken_to, PortKept}

module _ {M : Type 0} {last : ℕ} {own other : ℕ → Option M} {p : ℕ} {said : Bool} {port : Port M} {emitted taken : List (Wire M)}
    (kept : PortKept last own other p said port emitted taken) where
  -- the payloads that it emitted
  pub tells : payloads_of emitted ≡ sent_pulses own p ++ sent_pulse p (own p)
  tells = payloads_to-grows own last start_at emitted kept.emits ∙ ap (payloads_to own) kept.emitted_at ∙ both said (own p) refl
    where
      both : (s : Bool) (o : Option M) → own p ≡ o → payloads_to own record {
        safes = p + bit s;
        paid = if s then false else is_some o;
        closed =
            nat_eq p last;
      } ≡ sent_pulses own p ++ sent_pulse p o
      both true o e = rw add-one (append-nil _ ∙ ap (λ v. sent_pulses own p ++ sent_pulse p v) e)
      both false None e = rw add-zero refl
      both false (Some x) e = rw add-zero refl

  -- those not acknowledged
  pub owes : length (payloads_of emitted) ≡ length (acks_of taken) + bit port.waits
  owes = ap length tells ∙ length-append _ _ ∙ count port.waits (own p) kept.waiting ∙
      ap (λ n. n + bit port.waits) (sym (ap length kept.acks_are ∙ length-append _ _))
    where
      count : (w : Bool) (o : Option M) → (w ≡ true → is_some o ≡ true) → length (sent_pulses own p) + length (sent_pulse p o)
          ≡ length (sent_pulses own p) + length (if w then [] else sent_pulse p o) + bit w
      count true None e = absurd (let f = e refl in cc)
      count true (Some x) e = omega arith
      count false o e = omega arith

module _ {M : Type 0} {last : ℕ} {there back : ℕ → Option M} {p : ℕ} {said : Bool} {port : Port M} {emitted taken : List (Wire M)}
    (sender : PortKept last there back p said port emitted taken)
    {p' : ℕ} {said' : Bool} {port' : Port M} {emitted' taken' : List (Wire M)} (taker : PortKept last back there p' said' port' emitted' taken')
    (flight flight' : List (Wire M)) (whole : taken' ++ flight ≡ emitted) (whole' : taken ++ flight' ≡ emitted') where
  pub rest_goes : Follows there last (taken_to p' port') flight
  rest_goes = let all : Follows there last start_at (taken' ++ flight) = rw whole sender.emits in
      rw taker.taken_at at (follows-rest there last start_at taken' flight all)

  pub rest_ends : moves (taken_to p' port') flight ≡ emitted_to last p said (there p)
  rest_ends = ap (λ c. moves c flight) (sym taker.taken_at) ∙ sym (moves-append start_at taken' flight) ∙ ap (moves start_at) whole ∙ sender.emitted_at

  pub place_most : (s : Bool) (o : Option M) → place record {
    safes = p + bit s;
    paid = if s then false else is_some o;
    closed =
        nat_eq p last;
  } ≤ 2 * p + 1 + bit s
  place_most true o = omega arith
  place_most false o = omega (arith, bit_le (is_some o))

  -- what was taken was emitted
  pub behind : place (taken_to p' port') ≤ 2 * p + 1 + bit said
  behind = omega (arith, place-grows there last (taken_to p' port') flight rest_goes, ap place rest_ends, place_most said (there p))

  pub near : safes_at p' port' ≤ p + bit said
  near = omega (arith, behind, bit_le said)

  payloads_split : length (payloads_of taken') + length (payloads_of flight) ≡ length (payloads_of emitted)
  payloads_split = sym (length-append _ _) ∙ ap length (sym (payloads-append taken' flight) ∙ ap payloads_of whole)

  acks_split : length (acks_of taken') + length (acks_of flight) ≡ length (acks_of emitted)
  acks_split = sym (length-append _ _) ∙ ap length (sym (acks-append taken' flight) ∙ ap acks_of whole)

module _ {M : Type 0} {last : ℕ} {there back : ℕ → Option M} {p : ℕ} {said : Bool} {port : Port M} {emitted taken : List (Wire M)}
    (sender : PortKept last there back p said port emitted taken)
    {p' : ℕ} {said' : Bool} {port' : Port M} {emitted' taken' : List (Wire M)} (taker : PortKept last back there p' said' port' emitted' taken')
    (flight flight' : List (Wire M)) (whole : taken' ++ flight ≡ emitted) (whole' : taken ++ flight' ≡ emitted') where
  pub near' : safes_at p port ≤ p' + bit said'
  near' = near taker sender flight' flight whole' whole

  -- neighbours are at most one pulse apart
  pub apart : (p ≤ suc p') × (p' ≤ suc p)
  apart = (omega (arith, near', bit_le said'), omega (arith, near sender taker flight flight' whole whole', bit_le said))

  bits : (a b : Bool) → (a ≡ true → b ≡ false) → bit a + bit b ≤ 1
  bits true b e = let f = e refl in rw f (omega arith)
  bits false b e = omega (arith, bit_le b)

  -- at most one of: safe said, a payload waited for, the last pulse entered
  one_of : there last ≡ None → bit said + bit port.waits + bit (nat_eq p last) ≤ 1
  one_of silent = ⊎_elim
      (λ same.
      let unsaid : said ≡ false = false_from_ne_true said (λ e. let lt = sender.before_last e in omega arith) in
      let quiet : port.waits ≡ false = false_from_ne_true port.waits (λ e. let some = sender.waiting e in let none : is_some (there p) ≡ false =
      ap (λ o. is_some o) (ap there same ∙ silent) in cc) in
      rw (unsaid, quiet, eq-eqb p last same) (omega arith))
      (λ ne. rw (ne_eqb p last ne) (omega (arith, bits said port.waits sender.quiet)))
      (cases_eq p last)

  -- at most two emitted wires are not taken
  pub at_most_two : there last ≡ None → length flight ≤ 2
  at_most_two silent = omega (
    arith,
    length-counts there last (taken_to p' port') flight (rest_goes sender taker flight flight' whole whole'),
    ap (λ c. c.safes) (rest_ends sender taker flight flight' whole whole'),
    ap (λ c. bit c.closed) (rest_ends sender taker flight flight' whole whole'),
    payloads_split sender taker flight flight' whole whole',
    acks_split sender taker flight flight' whole whole',
    payloads_split taker sender flight' flight whole' whole,
    acks_split taker sender flight' flight whole' whole,
    owes sender,
    owes taker,
    ap length sender.acknowledges,
    ap length taker.acknowledges,
    one_of silent,
    bits said' port'.waits taker.quiet,
    near',
  )
