-- Three laps of thorough turns make every node's pulse greater by one. In the first all payloads of m are taken, and
-- their acknowledgements put; in the second these are taken, so each node at m says safe, and its safes are put; in the
-- third these are taken, so each node at m makes its pulse.
use Rattle.std.proofs.Common.{◌≡◌, ◌⊎◌, inl, inr, ⊎_elim, ℕ, suc, ◌+◌, ◌<◌, ◌≤◌, false, List, refl, sym, ap, arith, subst, Bool, true, not, ne_eqb}
use Rattle.std.specs.Prelude.{Contains, is_some, nat_eq}
use Rattle.std.proofs.lemmas.Bool.{cases_eq, and_from}
use Rattle.interference.specs.Net.{Net, IsNetwork, IsVertex, degree_of, neighbour_of, back_port_of}
use Rattle.node_api.specs.Program.{Program, last_pulse_on}
use Rattle.wires.proofs.Wires.{acks-append, payloads-append}
use Rattle.alpha_core.specs.View.{can_pulse, expects, bit}
use Rattle.alpha_laws.proofs.Listed.{safes_moved}
use Rattle.alpha_laws.proofs.Runs.{Runs}
use Rattle.event_rule.specs.State.{State, node_of}
use Rattle.std.proofs.lemmas.List.Elements.{Contains-append_left}
use Rattle.interference.proofs.Neighbours.{at-back_port}
use Rattle.wires.specs.Wires.{acks_of, payloads_of, safes_of}
use Rattle.link_rule.specs.Sent.{sends}
use Rattle.alpha_laws.specs.Position.{start_at}
use Rattle.alpha_laws.proofs.EachPort.{safe_from}
use Rattle.alpha_laws.proofs.UpTo.{safes-append}
use Rattle.event_rule.proofs.Changes.{pulse_of}
use Rattle.event_rule.proofs.Turned.{Passed}
use Rattle.event_rule.proofs.Levels.{sent, sent_here, taken, own, other, port_of, Level, simulation, port_kept, payload_put, safes_put, level_on}
use Rattle.event_rule.proofs.Enough.{enough, payload_taken, ack_came, says}

safe_is : (p : ℕ) (safe early : Bool) → (early ≡ true → safe ≡ true) → suc p ≤ p + bit safe + bit early → safe ≡ true
safe_is p true early nested many = refl
safe_is p false true nested many = nested refl
safe_is p false false nested many = absurd (omega (arith, many))

module _ {S M E : Type 0} {program : Program S M E} {net : Net} (ok : IsNetwork net) (runs : Runs program net) where
  abbrev last : ℕ
  last = last_pulse_on program net

  -- the first lap: the payloads of m are taken, and their acknowledgements put
  acks_put : (m : ℕ) → m < last → (vs : List ℕ) (old new : State S M) → ((v : ℕ) → IsVertex net v → Contains vs v) → Level program net m old
      → Level program net m new → Passed ok runs vs old new
      → (v i : ℕ) → IsVertex net v → i < degree_of net v → is_some (other program net v i m) ≡ true → Contains (acks_of (sent new v i)) m
  acks_put m below vs old new all level level' passed v i vertex lt some =
      let w = neighbour_of net v i in
      let k = back_port_of net v i in
      let has = payload_put ok runs m old level w k (ok.vertices v i vertex lt) (ok.symmetric v i vertex lt)
      (subst (λ u. is_some (sends program net w u m) ≡ true) (sym (at-back_port net ok v i vertex lt)) some) in
      let by_port : (suc m ≤ pulse_of program net new v) ⊎ (expects (port_of program net new v i) ≡ false)
      → Contains (payloads_of (taken net new v i)) m = λ why.
      payload_taken ok runs m new passed.kept v i vertex lt (enough ok runs m below new passed.kept v i vertex lt (level'.least v vertex) why) some in
      let came : Contains (payloads_of (taken net new v i)) m = ⊎_elim
      (λ grew. by_port (inl (omega (arith, grew, level.least v vertex))))
      (⊎_elim
      (λ quiet. by_port (inr quiet))
      (λ more. subst (λ l. Contains (payloads_of l) m) more.1
      (subst (λ l. Contains l m) (sym (payloads-append (sent_here net old v i) more.0)) (Contains-append_left _ _ m has))))
      (passed.taken v i (all v vertex) vertex lt) in
      subst (λ l. Contains l m) (sym (port_kept ok runs m new level' v i vertex lt).acknowledges) came

  -- the second: these are taken, and each node at m says safe
  acks_taken : (m : ℕ) → m < last → (vs : List ℕ) (old new : State S M) → ((v : ℕ) → IsVertex net v → Contains vs v) → Level program net m old
      → Level program net m new
      → Passed ok runs vs old new
      → ((v i : ℕ) → IsVertex net v → i < degree_of net v → is_some (other program net v i m) ≡ true → Contains (acks_of (sent old v i)) m)
      → (v i : ℕ) → IsVertex net v → i < degree_of net v → is_some (own program net v i m) ≡ true → Contains (acks_of (taken net new v i)) m
  acks_taken m below vs old new all level level' passed put v i vertex lt some =
      let w = neighbour_of net v i in
      let k = back_port_of net v i in
      let has = put w k (ok.vertices v i vertex lt) (ok.symmetric v i vertex lt)
      (subst (λ u. is_some (sends program net u w m) ≡ true) (sym (at-back_port net ok v i vertex lt)) some) in
      let by_port : (suc m ≤ pulse_of program net new v) ⊎ (expects (port_of program net new v i) ≡ false)
      → Contains (acks_of (taken net new v i)) m = λ why.
      ack_came ok runs m below new passed.kept v i vertex lt (level'.least v vertex) why some in
      ⊎_elim
      (λ grew. by_port (inl (omega (arith, grew, level.least v vertex))))
      (⊎_elim
      (λ quiet. by_port (inr quiet))
      (λ more. subst (λ l. Contains (acks_of l) m) more.1
      (subst (λ l. Contains l m) (sym (acks-append (sent_here net old v i) more.0)) (Contains-append_left _ _ m has))))
      (passed.taken v i (all v vertex) vertex lt)

  acks_stay : (m : ℕ) (vs : List ℕ) (old new : State S M) → Passed ok runs vs old new → (v i : ℕ) → IsVertex net v → i < degree_of net v
      → Contains (acks_of (taken net old v i)) m → Contains (acks_of (taken net new v i)) m
  acks_stay m vs old new passed v i vertex lt has =
      let more = passed.later.taken (neighbour_of net v i) (back_port_of net v i) (ok.vertices v i vertex lt) (ok.symmetric v i vertex lt) in
      subst (λ l. Contains (acks_of l) m) more.1
      (subst (λ l. Contains l m) (sym (acks-append (taken net old v i) more.0)) (Contains-append_left _ _ m has))

  -- three laps
  module _ (m : ℕ) (below : m < last) (s0 s1 s2 s3 : State S M) (o1 o2 o3 : List ℕ) (all1 : (v : ℕ) → IsVertex net v → Contains o1 v)
      (all2 : (v : ℕ) → IsVertex net v → Contains o2 v) (all3 : (v : ℕ) → IsVertex net v → Contains o3 v) (level : Level program net m s0)
      (one : Passed ok runs o1 s0 s1) (two : Passed ok runs o2 s1 s2) (three : Passed ok runs o3 s2 s3) where
    level1 : Level program net m s1
    level1 = level_on ok runs m o1 s0 s1 all1 one level.least

    level2 : Level program net m s2
    level2 = level_on ok runs m o2 s1 s2 all2 two level1.least

    level3 : Level program net m s3
    level3 = level_on ok runs m o3 s2 s3 all3 three level2.least

    acked2 : (v i : ℕ) → IsVertex net v → i < degree_of net v → is_some (own program net v i m) ≡ true → Contains (acks_of (taken net s2 v i)) m
    acked2 = acks_taken m below o2 s1 s2 all2 level1 level2 two (acks_put m below o1 s0 s1 all1 level level1 one)

    safes2 : (v i : ℕ) → IsVertex net v → i < degree_of net v → suc m ≤ safes_of (sent s2 v i)
    safes2 v i vertex lt =
        let many = safes_put ok runs m s2 level2 v i vertex lt in
        ⊎_elim
        (λ at. let said = says ok runs m s2 level2.kept v vertex below at (λ j lt'. acked2 v j vertex lt') in omega (arith, many, at, ap bit said))
        (λ ne. let le = level2.least v vertex in omega (arith, many, le, ne))
        (cases_eq (pulse_of program net s2 v) m)

    safes3 : (v i : ℕ) → IsVertex net v → i < degree_of net v → suc m ≤ safes_of (taken net s3 v i)
    safes3 v i vertex lt =
        let many = safes2 (neighbour_of net v i) (back_port_of net v i) (ok.vertices v i vertex lt) (ok.symmetric v i vertex lt) in
        let by_port : (suc m ≤ pulse_of program net s3 v) ⊎ (expects (port_of program net s3 v i) ≡ false) → suc m ≤ safes_of (taken net s3 v i) = λ why.
        enough ok runs m below s3 level3.kept v i vertex lt (level3.least v vertex) why in
        ⊎_elim
        (λ grew. by_port (inl (omega (arith, grew, level2.least v vertex))))
        (⊎_elim
        (λ quiet. by_port (inr quiet))
        (λ more. omega (arith, many, ap safes_of more.1, safes-append (sent_here net s2 v i) more.0)))
        (three.taken v i (all3 v vertex) vertex lt)

    can : (v : ℕ) → IsVertex net v → pulse_of program net s3 v ≡ m → can_pulse last (node_of program net s3 v).view ≡ true
    can v vertex at =
        let kept = level3.kept.each v vertex in
        let said = says ok runs m s3 level3.kept v vertex below at (λ i lt some. acks_stay m o3 s2 s3 three v i vertex lt (acked2 v i vertex lt some)) in
        let halted : not (nat_eq (pulse_of program net s3 v) last) ≡ true = ap (λ b. not b)
        (ne_eqb (pulse_of program net s3 v) last (λ e. omega (arith, e))) in
        let safe = safe_from (node_of program net s3 v).view.ports (λ i lt.
        let lt' : i < degree_of net v = omega (arith, kept.ports.count) in
        let port = kept.ports.each i lt' in
        safe_is (pulse_of program net s3 v) (port_of program net s3 v i).safe (port_of program net s3 v i).early_safe port.nested
        (omega (arith, safes3 v i vertex lt', at, safes_moved start_at (taken net s3 v i), ap (λ c. c.safes) port.taken_at))) in
        and_from _ _ (and_from _ _ (and_from _ _ halted said) safe) ((simulation ok runs s3 level3.kept).always_can_take v vertex)

    pub level_up : Level program net (suc m) s3
    level_up = record {
      kept = level3.kept;
      all_put = level3.all_put;
      least = λ v vertex. ⊎_elim
          (λ at. ⊎_elim
          (λ lt. let le = level2.least v vertex in absurd (omega (arith, lt, le, at)))
          (λ stuck. let yes = can v vertex at in absurd cc)
          (three.pulsed v (all3 v vertex) vertex))
          (λ ne. let le = level3.least v vertex in omega (arith, le, ne))
          (cases_eq (pulse_of program net s3 v) m);
    }
