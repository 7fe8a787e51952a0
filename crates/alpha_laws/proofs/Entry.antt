-- What a node emits as it enters a pulse, but for its safe.
use Rattle.std.proofs.Common.{not, ◌&&◌, ◌≡◌, ℕ, ◌+◌, ◌<◌, ◌≤◌, false, [], Option, Some, None, refl, ap, ◌∙◌, arith, ⊎_elim, ne_eqb, eq-eqb}
use Rattle.std.specs.Prelude.{is_some, if◌then◌else◌, nat_eq}
use Rattle.std.proofs.lemmas.Bool.{cases_Bool, cases_eq}
use Rattle.wires.specs.Wires.{acks_of}
use Rattle.wires.specs.Streams.{sent_pulse, payload_wire}
use Rattle.alpha_core.specs.Alpha.{entry}
use Rattle.alpha_laws.proofs.Kept.{same_at, entered_at}
use Rattle.alpha_laws.specs.Position.{moves, Follows}
use Rattle.alpha_laws.specs.Kept.{emitted_to}

pub none_waits : {M : Type 0} (last q : ℕ) (o : Option M) → (q ≡ last → o ≡ None) → (if not (nat_eq q last) && is_some o then [] else sent_pulse q o) ≡ []
none_waits last q None silent = ⊎_elim (λ e. rw e refl) (λ e. rw e refl) (cases_Bool (nat_eq q last))
none_waits last q (Some x) silent = ⊎_elim (λ same. let none = silent same in absurd cc) (λ ne. rw (ne_eqb q last ne) refl) (cases_eq q last)

module _ {M : Type 0} (own : ℕ → Option M) (last p : ℕ) (within : p ≤ last) (silent : own last ≡ None) where
  pub entry_goes : Follows own last (entered_at p) (entry last p (own p))
  entry_goes = ⊎_elim
      (λ same. rw (eq-eqb p last same) ((refl, same), tt))
      (λ ne. rw (ne_eqb p last ne) (sent (own p) refl (omega (arith, within, ne))))
      (cases_eq p last)
    where
      sent : (o : Option M) → own p ≡ o → p < last → Follows own last (entered_at p) (payload_wire p o)
      sent None e lt = tt
      sent (Some x) e lt = ((refl, refl, e, refl, lt), tt)

  pub entry_at : moves (entered_at p) (entry last p (own p)) ≡ emitted_to last p false (own p)
  entry_at = ⊎_elim
      (λ same. let none : own p ≡ None = ap own same ∙ silent in rw (eq-eqb p last same, none) (same_at _ _ _ _ _ _ (omega arith) refl refl))
      (λ ne. rw (ne_eqb p last ne) (sent (own p)))
      (cases_eq p last)
    where
      sent : (o : Option M) → moves (entered_at p) (payload_wire p o) ≡ record { safes = p + 0; paid = is_some o; closed = false }
      sent None = same_at _ _ _ _ _ _ (omega arith) refl refl
      sent (Some x) = same_at _ _ _ _ _ _ (omega arith) refl refl

  pub entry_acks : acks_of (entry last p (own p)) ≡ []
  entry_acks = ⊎_elim
      (λ same. rw (eq-eqb p last same) refl)
      (λ ne. rw (ne_eqb p last ne) (sent (own p)))
      (cases_eq p last)
    where
      sent : (o : Option M) → acks_of (payload_wire p o) ≡ []
      sent None = refl
      sent (Some x) = refl
