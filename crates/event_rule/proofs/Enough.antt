-- What a node has taken that is past pulse m, or whose port expects nothing more: a safe of m, and so the payload of m
-- before it, and the acknowledgement of its own payload of m. And a node at m all of whose payloads were acknowledged
-- has said safe.
use Rattle.std.proofs.Common.{◌≡◌, ◌⊎◌, inl, inr, ⊎_elim, ℕ, suc, ◌<◌, ◌≤◌, false, refl, sym, ap, ◌∙◌, append-nil, arith, subst, Bool, true, not}
use Rattle.std.proofs.Common.{◌&&◌, ◌||◌, true≢false}
use Rattle.std.specs.Prelude.{Contains, is_some}
use Rattle.std.proofs.lemmas.Bool.{cases_eq, cases_Bool}
use Rattle.interference.specs.Net.{Net, IsNetwork, IsVertex, degree_of}
use Rattle.node_api.specs.Program.{Program, last_pulse_on}
use Rattle.wires.specs.Streams.{sent_pulse, sent_pulses}
use Rattle.alpha_core.specs.View.{expects, bit, safes_at}
use Rattle.alpha_laws.proofs.Listed.{close_in, one_contains, pulses_below, pulses_has, safes_moved}
use Rattle.alpha_laws.proofs.Runs.{Runs}
use Rattle.event_rule.specs.State.{State, node_of}
use Rattle.event_rule.proofs.NetKept.{NetKept}
use Rattle.std.proofs.lemmas.List.Elements.{Contains-append_left, Contains-append_right}
use Rattle.wires.specs.Wires.{acks_of, payloads_of, safes_of}
use Rattle.alpha_laws.specs.Position.{moves, start_at}
use Rattle.alpha_laws.proofs.Cursor.{payloads_to, payloads_to-grows}
use Rattle.alpha_laws.proofs.EachPort.{none_from}
use Rattle.alpha_laws.proofs.Lawful.{place_taken}
use Rattle.event_rule.proofs.Changes.{pulse_of}
use Rattle.event_rule.proofs.Levels.{taken, own, other, said_at, port_of, simulation}

-- a port that expects nothing is closed, or it is safe and waits for no acknowledgement
pub quiet_is : (closed safe waits : Bool) → (not closed && (not safe || waits)) ≡ false → (closed ≡ true) ⊎ ((safe ≡ true) × (waits ≡ false))
quiet_is true safe waits e = inl refl
quiet_is false true false e = inr (refl, refl)
quiet_is false true true e = absurd (true≢false e)
quiet_is false false waits e = absurd (true≢false e)

module _ {S M E : Type 0} {program : Program S M E} {net : Net} (ok : IsNetwork net) (runs : Runs program net) where
  abbrev last : ℕ
  last = last_pulse_on program net

  -- what a port that expects nothing more has taken
  pub enough : (m : ℕ) → m < last → (state : State S M) → (kept : NetKept program net state) → (v i : ℕ) → IsVertex net v → i < degree_of net v
      → m ≤ pulse_of program net state v → (suc m ≤ pulse_of program net state v) ⊎ (expects (port_of program net state v i) ≡ false)
      → suc m ≤ safes_of (taken net state v i)
  enough m below state kept v i vertex lt least why =
      let one = (kept.each v vertex).ports.each i lt in
      let many : safes_of (taken net state v i) ≡ safes_at (pulse_of program net state v) (port_of program net state v i) =
      omega (arith, safes_moved start_at (taken net state v i), ap (λ c. c.safes) one.taken_at) in
      ⊎_elim
      (λ past. omega (arith, many, past))
      (λ quiet. ⊎_elim
      (λ shut. omega (arith, many, (place_taken one).ended shut, below))
      (λ both. omega (arith, many, ap bit both.0, least))
      (quiet_is (port_of program net state v i).closed (port_of program net state v i).safe (port_of program net state v i).waits quiet))
      why

  pub payload_taken : (m : ℕ) (state : State S M) → (kept : NetKept program net state) → (v i : ℕ) → IsVertex net v → i < degree_of net v
      → suc m ≤ safes_of (taken net state v i) → is_some (other program net v i m) ≡ true → Contains (payloads_of (taken net state v i)) m
  payload_taken m state kept v i vertex lt many some =
      let one = (kept.each v vertex).ports.each i lt in
      let is : payloads_of (taken net state v i) ≡ payloads_to (other program net v i) (moves start_at (taken net state v i)) =
      payloads_to-grows (other program net v i) last start_at (taken net state v i) one.takes in
      subst (λ l. Contains l m) (sym is) (Contains-append_left (sent_pulses (other program net v i) (moves start_at (taken net state v i)).safes) _ m
      (pulses_has (other program net v i) (moves start_at (taken net state v i)).safes m
      (omega (arith, many, safes_moved start_at (taken net state v i))) some))

  -- an acknowledgement was taken: the node is past that pulse, or its port expects nothing more
  pub ack_came : (m : ℕ) → m < last → (state : State S M) → (kept : NetKept program net state) → (v i : ℕ) → IsVertex net v → i < degree_of net v
      → m ≤ pulse_of program net state v → (suc m ≤ pulse_of program net state v) ⊎ (expects (port_of program net state v i) ≡ false)
      → is_some (own program net v i m) ≡ true → Contains (acks_of (taken net state v i)) m
  ack_came m below state kept v i vertex lt least why some =
      let one = (kept.each v vertex).ports.each i lt in
      let p = pulse_of program net state v in
      let past : suc m ≤ p → Contains (acks_of (taken net state v i)) m = λ less.
      subst (λ l. Contains l m) (sym one.acks_are)
      (Contains-append_left (sent_pulses (own program net v i) p) _ m (pulses_has (own program net v i) p m less some)) in
      ⊎_elim
      past
      (λ quiet. ⊎_elim
      (λ shut.
      let has = close_in start_at (taken net state v i) refl (ap (λ c. c.closed) one.taken_at ∙ shut) in
      let all = (simulation ok runs state kept).all_before_close v i vertex lt has in
      subst (λ l. Contains l m) (sym all.1) (pulses_has (own program net v i) last m below some))
      (λ both. ⊎_elim
      (λ at. subst (λ l. Contains l m) (sym (one.acks_are ∙ rw both.1 refl))
      (Contains-append_right (sent_pulses (own program net v i) p) (sent_pulse p (own program net v i p)) m
      (subst (λ q. Contains (sent_pulse q (own program net v i q)) m) (sym at) (one_contains m (own program net v i m) some))))
      (λ ne. past (omega (arith, least, ne)))
      (cases_eq p m))
      (quiet_is (port_of program net state v i).closed (port_of program net state v i).safe (port_of program net state v i).waits quiet))
      why

  -- a node says safe once its payloads were acknowledged
  no_wait : (state : State S M) → NetKept program net state → (v i : ℕ) → IsVertex net v → i < degree_of net v
      → (is_some (own program net v i (pulse_of program net state v)) ≡ true → Contains (acks_of (taken net state v i)) (pulse_of program net state v))
      → (port_of program net state v i).waits ≡ false
  no_wait state kept v i vertex lt acked = ⊎_elim
      (λ waits.
      let one = (kept.each v vertex).ports.each i lt in
      let p = pulse_of program net state v in
      let before : Contains (sent_pulses (own program net v i) p) p =
      subst (λ l. Contains l p) (one.acks_are ∙ rw waits (append-nil (sent_pulses (own program net v i) p))) (acked (one.waiting waits)) in
      let less = pulses_below (own program net v i) p p before in
      absurd (omega (arith, less)))
      (λ quiet. quiet)
      (cases_Bool (port_of program net state v i).waits)

  pub says : (m : ℕ) (state : State S M) → NetKept program net state → (v : ℕ) → IsVertex net v → m < last → pulse_of program net state v ≡ m
      → ((i : ℕ) → i < degree_of net v → is_some (own program net v i m) ≡ true → Contains (acks_of (taken net state v i)) m)
      → said_at program net state v ≡ true
  says m state kept v vertex below at acked =
      let one = kept.each v vertex in
      one.spoken (omega (arith, at)) (none_from (node_of program net state v).view.ports (λ i lt.
      let lt' : i < degree_of net v = omega (arith, one.ports.count) in
      no_wait state kept v i vertex lt'
      (subst (λ q. is_some (own program net v i q) ≡ true → Contains (acks_of (taken net state v i)) q) (sym at) (acked i lt'))))
