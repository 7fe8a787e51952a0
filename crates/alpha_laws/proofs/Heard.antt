-- What the node at one end of a link has taken, as seen from the other end.
use Rattle.std.proofs.Common.{◌≡◌, ℕ, ◌+◌, ◌*◌, ◌<◌, Bool, true, List, ◌++◌, Option, Some, None, refl, sym, ap, ◌∙◌, arith, subst, ⊎_elim}
use Rattle.std.specs.Prelude.{is_some, Contains}
use Rattle.std.proofs.lemmas.Bool.{cases_lt}
use Rattle.std.proofs.lemmas.List.Elements.{Contains-append_left}
use Rattle.wires.specs.declared.wire.Wire.{Wire}
use Rattle.wires.specs.Wires.{acks_of, payload_at}
use Rattle.alpha_core.specs.View.{Port, bit}
use Rattle.wires.proofs.Wires.{acks-append}
use Rattle.alpha_laws.proofs.Cursor.{place, payloads_to-grows}
use Rattle.alpha_laws.proofs.Across.{whole'}
use Rattle.alpha_laws.proofs.Passed.{at-passed, at-early}
use Rattle.alpha_laws.specs.Position.{start_at, moves}
use Rattle.alpha_laws.specs.Kept.{PortKept}
use Rattle.alpha_laws.proofs.PortClaims.{acked}
use Rattle.alpha_laws.proofs.Listed.{payloads_to_below}

module _ {M : Type 0} {last : ℕ} {own other : ℕ → Option M} {p : ℕ} {said : Bool} {port : Port M} {emitted taken : List (Wire M)}
    (kept : PortKept last own other p said port emitted taken) where
  -- the payloads of the pulses done are those that the other end sent
  pub passed_at : (q : ℕ) → q < p → payload_at q taken ≡ other q
  passed_at q lt = at-passed other last q start_at taken kept.takes (omega arith) (rw kept.taken_at (omega arith))

-- a payload of a pulse that was said safe was taken
pub heard : {M : Type 0} {last : ℕ} {there back : ℕ → Option M} {p : ℕ} {said : Bool} {port : Port M} {emitted taken : List (Wire M)}
    (sender : PortKept last there back p said port emitted taken)
    {p' : ℕ} {said' : Bool} {port' : Port M} {emitted' taken' : List (Wire M)} (taker : PortKept last back there p' said' port' emitted' taken')
    (flight' : List (Wire M)) (whole' : taken ++ flight' ≡ emitted') (q : ℕ) → q < p + bit said → payload_at q taken' ≡ there q
heard {M} {last} {there} {back} {p} {said} {port} {emitted} {taken} sender {p'} {said'} {port'} {emitted'} {taken'} taker flight' whole' q lt =
    by_cases (there q) refl
  where
    passed : is_some (there q) ≡ true → 2 * q < place (moves start_at taken')
    passed e =
        let acknowledged : Contains (acks_of emitted') q = subst (λ l. Contains (acks_of l) q) whole'
        (subst (λ l. Contains l q) (sym (acks-append taken flight')) (Contains-append_left (acks_of taken) (acks_of flight') q (acked sender q lt e))) in
        payloads_to_below there (moves start_at taken') q (subst (λ l. Contains l q) (taker.acknowledges ∙
        payloads_to-grows there last start_at taken' taker.takes) acknowledged)

    by_cases : (o : Option M) → there q ≡ o → payload_at q taken' ≡ there q
    by_cases (Some x) e = at-passed there last q start_at taken' taker.takes (omega arith) (passed (ap (λ o. is_some o) e))
    by_cases None e = ⊎_elim
        (λ late. at-passed there last q start_at taken' taker.takes (omega arith) late)
        (λ soon. at-early there last q start_at taken' taker.takes soon ∙ sym e)
        (cases_lt (2 * q) (place (moves start_at taken')))
