-- A node that keeps all its links.
use Rattle.std.proofs.Common.{◌≡◌, ℕ, suc, zero, ◌<◌, Bool, true, false, not, ◌&&◌, List, [], ◌∷◌, ◌++◌, map, Option, length, get_or, set, refl, sym, ap, ◌∙◌}
use Rattle.std.proofs.Common.{append_assoc, arith, subst, ⊎_elim, lt-ltb}
use Rattle.std.specs.Prelude.{nat_lt}
use Rattle.std.proofs.lemmas.Bool.{cases_eq, cases_Bool, and_parts, ltb-true}
use Rattle.std.proofs.lemmas.List.{get_or-map, get_or-set_same, get_or-set_other, length-set, length-map}
use Rattle.interference.specs.Net.{Net, degree_of}
use Rattle.node_api.specs.Program.{Program, last_pulse_on}
use Rattle.wires.specs.declared.wire.Wire.{Wire}
use Rattle.wires.specs.declared.wire.Wire.TheVariants.{Safe}
use Rattle.alpha_core.specs.View.{Port, View, none_waits, new_port, port_at, set_port}
use Rattle.alpha_core.specs.Alpha.{emit, settles}
use Rattle.alpha_laws.proofs.PortFlags.{no_wait_at}
use Rattle.alpha_laws.proofs.Emits.{says}
use Rattle.alpha_laws.specs.Kept.{PortKept, KeptAt, PortsKept}

-- what is kept doesn't hang on the out-list by itself
pub kept_out : {M : Type 0} {last : ℕ} {own other : ℕ → Option M} {p : ℕ} {said : Bool} {port : Port M} {emitted taken : List (Wire M)}
    (ws emitted' : List (Wire M)) → emitted ≡ emitted'
    → PortKept last own other p said port emitted taken → PortKept last own other p said (record port { out = ws }) emitted' taken
kept_out {M} {last} {own} {other} {p} {said} {port} {emitted} {taken} ws emitted' same kept =
    subst (λ l. PortKept last own other p said (record port { out = ws }) l taken) same record {
      emits = kept.emits;
      emitted_at = kept.emitted_at;
      takes = kept.takes;
      taken_at = kept.taken_at;
      acknowledges = kept.acknowledges;
      acks_are = kept.acks_are;
      waiting = kept.waiting;
      quiet = kept.quiet;
      before_last = kept.before_last;
      within = kept.within;
      nested = kept.nested;
      present = kept.present;
      early = kept.early;
    }

module _ {S M E : Type 0} {program : Program S M E} {net : Net} {v : ℕ} {view : View M} {sent taken : ℕ →
    List (Wire M)} (kept : PortsKept program net v view sent taken) where
  pub inside : (i : ℕ) → i < degree_of net v → i < length view.ports
  inside i lt = omega (arith, kept.count, lt)

  -- safe is said where it has to be
  pub settles_kept : view.said ≡ false → PortsKept program net v (settles (last_pulse_on program net) view) sent taken
  settles_kept unsaid = ⊎_elim (λ met. rw met (spoken met)) (λ missed. rw missed kept)
      (cases_Bool (nat_lt view.pulse (last_pulse_on program net) && none_waits view.ports))
    where
      spoken : (nat_lt view.pulse (last_pulse_on program net) && none_waits view.ports) ≡ true
          → PortsKept program net v record { pulse = view.pulse; said = true; ports = map (λ port. emit (Safe view.pulse) port) view.ports } sent taken
      spoken met =
          let both = and_parts (nat_lt view.pulse (last_pulse_on program net)) (none_waits view.ports) met in
          record {
            count = length-map view.ports _ ∙ kept.count;
            within = kept.within;
            before_last = λ e. ltb-true view.pulse (last_pulse_on program net) both.0;
            each = λ i lt.
                let is : get_or (map (λ port. emit (Safe view.pulse) port) view.ports) i new_port ≡ emit (Safe view.pulse) (port_at view i) =
                get_or-map (λ port. emit (Safe view.pulse) port) view.ports i new_port new_port (inside i lt) in
                subst (λ port. KeptAt program net v i view.pulse true port (sent i ++ port.out) (taken i)) (sym is)
                (kept_out ((port_at view i).out ++ (Safe view.pulse ∷ [])) _ (append_assoc (sent i) (port_at view i).out (Safe view.pulse ∷ []))
                (says (kept.each i lt) (ltb-true view.pulse (last_pulse_on program net) both.0) unsaid
                (no_wait_at view.ports i new_port both.1 (inside i lt))));
          }

  -- and then it is said if no port waits
  pub settles_speaks : (settles (last_pulse_on program net) view).pulse < (last_pulse_on program net) →
      none_waits (settles (last_pulse_on program net) view).ports ≡ true → (settles (last_pulse_on program net) view).said ≡ true
  settles_speaks = ⊎_elim
      (λ met. rw met (λ lt e. refl))
      (λ missed. rw missed (λ lt e. let present : (nat_lt view.pulse (last_pulse_on program net) && none_waits view.ports) ≡ true =
      rw (lt-ltb view.pulse (last_pulse_on program net) lt, e) refl in cc))
      (cases_Bool (nat_lt view.pulse (last_pulse_on program net) && none_waits view.ports))

  pub settles_pulse : (settles (last_pulse_on program net) view).pulse ≡ view.pulse
  settles_pulse = ⊎_elim (λ met. rw met refl) (λ missed. rw missed refl) (cases_Bool (nat_lt view.pulse (last_pulse_on program net) && none_waits view.ports))

  -- one port and its lists change, the other ones stay
  pub port_changes : (i : ℕ) (port : Port M) (sent' taken' : ℕ → List (Wire M)) → i < degree_of net v
      → ((j : ℕ) → j < degree_of net v → (j ≡ i → ⊥) → (sent j ≡ sent' j) × (taken j ≡ taken' j))
      → KeptAt program net v i view.pulse view.said port (sent' i ++ port.out) (taken' i)
      → PortsKept program net v (set_port view i port) sent' taken'
  port_changes i port sent' taken' lt same new = record {
    count = length-set view.ports i port ∙ kept.count;
    within = kept.within;
    before_last = kept.before_last;
    each = λ j lt'. ⊎_elim
        (λ here. subst (λ k. KeptAt program net v k view.pulse view.said (port_at (set_port view i port) k) (sent' k
        ++ (port_at (set_port view i port) k).out) (taken' k)) (sym here)
        (subst (λ x. KeptAt program net v i view.pulse view.said x (sent' i ++ x.out) (taken' i))
        (sym (get_or-set_same view.ports i port new_port (inside i lt))) new))
        (λ ne.
        let lists = same j lt' ne in
        subst (λ x. KeptAt program net v j view.pulse view.said x (sent' j ++ x.out) (taken' j)) (sym (get_or-set_other view.ports i j port new_port ne))
        (subst (λ l. KeptAt program net v j view.pulse view.said (port_at view j) (l ++ (port_at view j).out) (taken' j)) lists.0
        (subst (λ l. KeptAt program net v j view.pulse view.said (port_at view j) (sent j ++ (port_at view j).out) l) lists.1 (kept.each j lt'))))
        (cases_eq j i);
  }

pub none_waits-set : {M : Type 0} (ports : List (Port M)) (i : ℕ) (port d : Port M) → i < length ports → port.waits ≡ (get_or ports i d).waits →
    none_waits (set ports i port) ≡ none_waits ports
none_waits-set [] i port d lt e = refl
none_waits-set (x ∷ ports) zero port d lt e = ap (λ b. not b && none_waits ports) e
none_waits-set (x ∷ ports) (suc i) port d lt e = ap (λ b. not x.waits && b) (none_waits-set ports i port d (omega arith) e)
