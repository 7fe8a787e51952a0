-- The entries of a node, as it writes one more down: they still lead to what it is, and have the lists that it put and took.
use Rattle.std.proofs.Common.{◌≡◌, ℕ, suc, ◌+◌, ◌<◌, ◌==◌, true, false, if◌then◌else◌, List, [], ◌∷◌, ◌++◌, refl, sym, ap, ◌∙◌, subst, arith}
use Rattle.std.proofs.Common.{zero, Some, Ok, Err, slice_get, ⊎_elim}
use Rattle.std.specs.Prelude.{Bool, IsTrue, Result, MatchResult}
use Rattle.std.specs.List.{range_with_len}
use Rattle.std.proofs.lemmas.Bool.{cases_eq, cases_Bool, eq-eqb, ne_eqb}
use Rattle.std.proofs.lemmas.List.{append-nil}
use Rattle.interference.specs.Net.{Net, IsNetwork, IsVertex, degree_of, neighbour_of, port_to}
use Rattle.interference.proofs.Neighbours.{port_to-is}
use Rattle.node_api.specs.Program.{Program, last_pulse_on}
use Rattle.wires.specs.declared.wire.Wire.{Wire}
use Rattle.alpha_core.specs.View.{View, Node, can_pulse, port_at}
use Rattle.alpha_core.specs.Alpha.{pulse, put_done, reaction, reacts}
use Rattle.alpha_core.specs.Program.{start_node}
use Rattle.alpha_laws.specs.Laws.{OneMore}
use Rattle.alpha_laws.proofs.PulseAfter.{pulsed_pulse, reaction_pulse, start_pulse}
use Rattle.entries.specs.declared.entry.Entry.{Entry}
use Rattle.entries.specs.declared.entry.Entry.TheVariants.{Pulse, Put, Take}
use Rattle.wired_nodes.specs.Written.{Leads, IsWritten, IsTranscript, puts_in, takes_in, pulses_in}

-- ---- a list that is read off the entries gets what the last entry has
puts_more : {M : Type 0} (xs ys : List (Entry M)) (w : ℕ) → puts_in (xs ++ ys) w ≡ puts_in xs w ++ puts_in ys w
puts_more [] ys w = refl
puts_more (Pulse p ∷ xs) ys w = puts_more xs ys w
puts_more (Put to x ∷ xs) ys w = ⊎_elim
    (λ yes. rw yes (ap (λ l. x ∷ l) (puts_more xs ys w)))
    (λ no. rw no (puts_more xs ys w))
    (cases_Bool (to == w))
puts_more (Take from x ∷ xs) ys w = puts_more xs ys w

pub takes_more : {M : Type 0} (xs ys : List (Entry M)) (w : ℕ) → takes_in (xs ++ ys) w ≡ takes_in xs w ++ takes_in ys w
takes_more [] ys w = refl
takes_more (Pulse p ∷ xs) ys w = takes_more xs ys w
takes_more (Put to x ∷ xs) ys w = takes_more xs ys w
takes_more (Take from x ∷ xs) ys w = ⊎_elim
    (λ yes. rw yes (ap (λ l. x ∷ l) (takes_more xs ys w)))
    (λ no. rw no (takes_more xs ys w))
    (cases_Bool (from == w))

pulses_more : {M : Type 0} (xs ys : List (Entry M)) → pulses_in (xs ++ ys) ≡ pulses_in xs ++ pulses_in ys
pulses_more [] ys = refl
pulses_more (Pulse p ∷ xs) ys = ap (λ l. p ∷ l) (pulses_more xs ys)
pulses_more (Put to x ∷ xs) ys = pulses_more xs ys
pulses_more (Take from x ∷ xs) ys = pulses_more xs ys

-- what holds of the value of a result that is no refusal, in other words
other_words : {A B : Type 0} (r : Result A B) (P P' : A → Type 0) → ((x : A) → P x → P' x) → MatchResult r P (λ _. ⊥) → MatchResult r P' (λ _. ⊥)
other_words (Ok x) P P' more is = more x is
other_words (Err e) P P' more is = is

range_more : (a n : ℕ) → range_with_len a (suc n) ≡ range_with_len a n ++ ((a + n) ∷ [])
range_more a zero = ap (λ k. k ∷ []) (omega arith)
range_more a (suc n) = ap (λ l. a ∷ l) (range_more (a + 1) n ∙ ap (λ k. range_with_len (a + 1) n ++ (k ∷ [])) (omega arith))

module _ {S M E : Type 0} (program : Program S M E) (net : Net) (v : ℕ) where
  -- one run of entries after the other
  leads_on : (xs ys : List (Entry M)) (from via to : Node S M) → Leads program net v xs from via → Leads program net v ys via to
      → Leads program net v (xs ++ ys) from to
  leads_on [] ys from via to is rest = subst (λ n. Leads program net v ys n to) (sym is) rest
  leads_on (Pulse p ∷ xs) ys from via to is rest = (
    is.0,
    (
      is.1.0,
      other_words (pulse program.next (last_pulse_on program net) from) (λ n. Leads program net v xs n via) (λ n. Leads program net v (xs ++ ys) n to)
          (λ n more. leads_on xs ys n via to more rest) is.1.1,
    ),
  )
  leads_on (Put w x ∷ xs) ys from via to is rest =
      (is.0, (is.1.0, leads_on xs ys record from { view = put_done from.view (port_to net v w) } via to is.1.1 rest))
  leads_on (Take w x ∷ xs) ys from via to is rest = (
    is.0,
    other_words (reaction (last_pulse_on program net) from.view (port_to net v w) x) (λ u. Leads program net v xs record from { view = u } via)
        (λ u. Leads program net v (xs ++ ys) record from { view = u } to) (λ u more. leads_on xs ys record from { view = u } via to more rest) is.1,
  )

  module _ (ok : IsNetwork net) (vertex : IsVertex net v) where
    -- a list by neighbour that gets one wire more, at one port
    grown : (i : ℕ) (w : Wire M) (old new : ℕ → List (Wire M)) (read read' : ℕ → List (Wire M)) → i < degree_of net v → OneMore i w old new
        → ((k : ℕ) → read' k ≡ read k ++ (if neighbour_of net v i == k then w ∷ [] else []))
        → ((j : ℕ) → j < degree_of net v → read (neighbour_of net v j) ≡ old j)
        → (j : ℕ) → j < degree_of net v → read' (neighbour_of net v j) ≡ new j
    grown i w old new read read' lt more longer same j lt' = ⊎_elim
        (λ here.
        let e = eq-eqb (neighbour_of net v i) (neighbour_of net v j) (ap (λ k. neighbour_of net v k) (sym here)) in
        longer (neighbour_of net v j) ∙ rw e refl ∙ ap (λ l. l ++ (w ∷ [])) (same j lt') ∙ ap (λ k. old k ++ (w ∷ [])) here ∙ sym more.here
        ∙ ap new (sym here))
        (λ other.
        let e = ne_eqb (neighbour_of net v i) (neighbour_of net v j) (λ one. other (sym (port_to-is net ok v j vertex lt')
        ∙ ap (λ k. port_to net v k) (sym one) ∙ port_to-is net ok v i vertex lt)) in
        longer (neighbour_of net v j) ∙ rw e refl ∙ append-nil (read (neighbour_of net v j)) ∙ same j lt' ∙ more.others j other)
        (cases_eq j i)

    pub wrote_put : (i : ℕ) (w : Wire M) (node new : Node S M) (puts puts' takens : ℕ → List (Wire M)) (entries : List (Entry M)) → i < degree_of net v
        → slice_get (port_at node.view i).out 0 ≡ Some w → new.view ≡ put_done node.view i → new.state ≡ node.state → OneMore i w puts puts'
        → IsWritten program net v node puts takens entries → IsWritten program net v new puts' takens (entries ++ (Put (neighbour_of net v i) w ∷ []))
    wrote_put i w node new puts puts' takens entries lt oldest view state more is =
        let to = neighbour_of net v i in
        let made : record node { view = put_done node.view i } ≡ new = node_is node new (put_done node.view i) view state in
        let step : Leads program net v (Put to w ∷ []) node new =
        subst (λ k. (k < degree_of net v) × ((slice_get (port_at node.view k).out 0 ≡ Some w) × (record node { view = put_done node.view k } ≡ new)))
        (sym (port_to-is net ok v i vertex lt)) (lt, (oldest, made)) in
        record {
          run = leads_on entries (Put to w ∷ []) (start_node program net v) node new is.run step;
          puts_are = grown i w puts puts' (puts_in entries) (puts_in (entries ++ (Put to w ∷ []))) lt more
              (λ k. puts_more entries (Put to w ∷ []) k) is.puts_are;
          takes_are = λ j lt'. takes_more entries (Put to w ∷ []) (neighbour_of net v j)
              ∙ append-nil (takes_in entries (neighbour_of net v j)) ∙ is.takes_are j lt';
          pulses_are = pulses_more entries (Put to w ∷ []) ∙ append-nil (pulses_in entries) ∙ is.pulses_are ∙ ap (λ u. range_with_len 1 u.pulse) (sym view);
        }
      where
        node_is : (a b : Node S M) (u : View M) → b.view ≡ u → b.state ≡ a.state → record a { view = u } ≡ b
        node_is a b u view state = ap (λ x. record { state = a.state; view = x }) (sym view) ∙ ap (λ s. record { state = s; view = b.view }) (sym state)

    pub wrote_take : (i : ℕ) (w : Wire M) (node new : Node S M) (puts takens takens' : ℕ → List (Wire M)) (entries : List (Entry M)) → i < degree_of net v
        → reaction (last_pulse_on program net) node.view i w ≡ Ok new.view → new.state ≡ node.state → OneMore i w takens takens'
        → IsWritten program net v node puts takens entries → IsWritten program net v new puts takens' (entries ++ (Take (neighbour_of net v i) w ∷ []))
    wrote_take i w node new puts takens takens' entries lt reacts state more is =
        let from = neighbour_of net v i in
        let made : record node { view = new.view } ≡ new = ap (λ s. record { state = s; view = new.view }) (sym state) in
        let step : Leads program net v (Take from w ∷ []) node new =
        subst (λ k. (k < degree_of net v) × MatchResult (reaction (last_pulse_on program net) node.view k w)
        (λ u. record node { view = u } ≡ new) (λ _. ⊥)) (sym (port_to-is net ok v i vertex lt))
        (lt, subst (λ r. MatchResult r (λ u. record node { view = u } ≡ new) (λ _. ⊥)) (sym reacts) made) in
        record {
          run = leads_on entries (Take from w ∷ []) (start_node program net v) node new is.run step;
          puts_are = λ j lt'. puts_more entries (Take from w ∷ []) (neighbour_of net v j)
              ∙ append-nil (puts_in entries (neighbour_of net v j)) ∙ is.puts_are j lt';
          takes_are = grown i w takens takens' (takes_in entries) (takes_in (entries ++ (Take from w ∷ []))) lt more
              (λ k. takes_more entries (Take from w ∷ []) k)
              is.takes_are;
          pulses_are = pulses_more entries (Take from w ∷ []) ∙ append-nil (pulses_in entries) ∙ is.pulses_are
              ∙ ap (λ n. range_with_len 1 n) (sym (reaction_pulse (last_pulse_on program net) node.view new.view i w reacts));
        }

  pub wrote_pulse : (p : ℕ) (node new : Node S M) (puts takens : ℕ → List (Wire M)) (entries : List (Entry M))
      → IsTrue (can_pulse (last_pulse_on program net) node.view) → pulse program.next (last_pulse_on program net) node ≡ Ok new → p ≡ new.view.pulse
      → IsWritten program net v node puts takens entries → IsWritten program net v new puts takens (entries ++ (Pulse p ∷ []))
  wrote_pulse p node new puts takens entries can made number is =
      let next : new.view.pulse ≡ suc node.view.pulse = pulsed_pulse (last_pulse_on program net) node new _ made in
      let step : Leads program net v (Pulse p ∷ []) node new =
      (can, (number ∙ next, subst (λ r. MatchResult r (λ n. n ≡ new) (λ _. ⊥)) (sym made) refl)) in
      record {
        run = leads_on entries (Pulse p ∷ []) (start_node program net v) node new is.run step;
        puts_are = λ j lt. puts_more entries (Pulse p ∷ []) (neighbour_of net v j) ∙ append-nil (puts_in entries (neighbour_of net v j)) ∙ is.puts_are j lt;
        takes_are = λ j lt. takes_more entries (Pulse p ∷ []) (neighbour_of net v j) ∙ append-nil (takes_in entries (neighbour_of net v j)) ∙ is.takes_are j lt;
        pulses_are = pulses_more entries (Pulse p ∷ []) ∙ ap (λ l. l ++ (p ∷ [])) is.pulses_are
            ∙ ap (λ k. range_with_len 1 node.view.pulse ++ (k ∷ [])) (let e : p ≡ 1 + node.view.pulse = omega (arith, number, next) in e)
            ∙ sym (range_more 1 node.view.pulse)
            ∙ ap (λ n. range_with_len 1 n) (sym next);
      }

  -- nothing is written down at the start
  starts_written : (puts takens : ℕ → List (Wire M)) → ((i : ℕ) → [] ≡ puts i) → ((i : ℕ) → [] ≡ takens i)
      → IsWritten program net v (start_node program net v) puts takens []
  starts_written puts takens none_put none_taken = record {
    run = refl;
    puts_are = λ i lt. none_put i;
    takes_are = λ i lt. none_taken i;
    pulses_are = ap (λ n. range_with_len 1 n) (sym (start_pulse program net v));
  }

  pub starts_transcript : (t : Bool) (puts takens : ℕ → List (Wire M)) (entries : List (Entry M)) → ((i : ℕ) → [] ≡ puts i) → ((i : ℕ) → [] ≡ takens i)
      → entries ≡ [] → IsTranscript program net v t (start_node program net v) puts takens entries
  starts_transcript t puts takens entries none_put none_taken empty = record {
    written = λ yes. subst (λ l. IsWritten program net v (start_node program net v) puts takens l) (sym empty) (starts_written puts takens none_put none_taken);
    none = λ no. empty;
  }

  -- a transcript is written, or there is none
  pub next_transcript : (t : Bool) (node new : Node S M) (puts puts' takens takens' : ℕ → List (Wire M)) (entries entries' : List (Entry M)) (e : Entry M)
      → entries' ≡ (if t then entries ++ (e ∷ []) else entries) → IsTranscript program net v t node puts takens entries
      → (IsWritten program net v node puts takens entries → IsWritten program net v new puts' takens' (entries ++ (e ∷ [])))
      → IsTranscript program net v t new puts' takens' entries'
  next_transcript true node new puts puts' takens takens' entries entries' e are is writes = record {
    written = λ yes. subst (λ l. IsWritten program net v new puts' takens' l) (sym are) (writes (is.written yes));
    none = λ no. absurd cc;
  }
  next_transcript false node new puts puts' takens takens' entries entries' e are is writes = record {
    written = λ yes. absurd cc;
    none = λ no. are ∙ is.none no;
  }
