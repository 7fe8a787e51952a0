-- Thorough laps end: one empties the out-lists at the start, three make the least pulse greater by one, and one takes
-- the closing marks at the end: 3·R + 2 for a last pulse R. After the end no event is possible, so that no turn has one,
-- and more laps change nothing.
use Rattle.std.proofs.Common.{◌≡◌, ℕ, zero, suc, ◌+◌, ◌<◌, ◌≤◌, List, [], ◌∷◌, ◌++◌, length, refl, sym, arith, subst, ◌*◌, Ok}
use Rattle.interference.specs.Net.{Net, IsNetwork}
use Rattle.node_api.specs.Program.{Program, last_pulse_on}
use Rattle.alpha_laws.proofs.Runs.{Runs}
use Rattle.event_rule.specs.declared.event.Event.{Event}
use Rattle.event_rule.specs.declared.event.Event.TheVariants.{Pulse, Put, Take}
use Rattle.event_rule.specs.State.{State, start}
use Rattle.event_rule.specs.Events.{IsRunFrom, Steps, Possible}
use Rattle.event_rule.specs.Laps.{AreThoroughTurns, AreThoroughLaps, ThoroughLapsEnd}
use Rattle.event_rule.proofs.Maximal.{end_of}
use Rattle.event_rule.specs.Step.{run}
use Rattle.event_rule.proofs.Exactly.{runs-exactly}
use Rattle.event_rule.proofs.KeptRuns.{start_good}
use Rattle.event_rule.specs.Endings.{IsTerminal}
use Rattle.event_rule.specs.Progress.{IsEnd}
use Rattle.event_rule.proofs.Turned.{one_run, laps}
use Rattle.event_rule.proofs.Levels.{Level, level_on}
use Rattle.event_rule.proofs.ThreeLaps.{level_up}
use Rattle.event_rule.proofs.LastLap.{terminal}

module _ {S M E : Type 0} {program : Program S M E} {net : Net} (ok : IsNetwork net) (runs : Runs program net) where
  abbrev last : ℕ
  last = last_pulse_on program net

  -- after the end nothing happens
  possible_of : (state next : State S M) (event : Event) → Steps program net state event next → Possible program net state event
  possible_of state next (Pulse v) s = s.possible
  possible_of state next (Put v i) s = s.possible
  possible_of state next (Take v i) s = s.possible

  module _ (state : State S M) (stuck : IsTerminal program net state) where
    nothing : (events : List Event) (next : State S M) → IsRunFrom program net state events next → next ≡ state
    nothing [] next same = same
    nothing (event ∷ events) next (middle, s, rest) = absurd (stuck event (possible_of state middle event s))

    no_turn : (vs : List ℕ) (final : State S M) → AreThoroughTurns program net state vs final → final ≡ state
    no_turn [] final same = same
    no_turn (v ∷ vs) final (next, turn, rest) =
        no_turn vs final (subst (λ s. AreThoroughTurns program net s vs final) (nothing turn.events next turn.leads) rest)

    no_lap : (orders : List (List ℕ)) (final : State S M) → AreThoroughLaps program net state orders final → final ≡ state
    no_lap [] final same = same
    no_lap (order ∷ orders) final (all, (next, turns, rest)) =
        no_lap orders final (subst (λ s. AreThoroughLaps program net s orders final) (no_turn order next turns) rest)

  pub run_on : (events more : List Event) (state next : State S M) → run program net events ≡ Ok state → IsRunFrom program net state more next
      → run program net (events ++ more) ≡ Ok next
  run_on events more state next is on =
      ((runs-exactly ok runs (events ++ more)).accepts next).1
      (one_run ok runs events more (start program net) state next (((runs-exactly ok runs events).accepts state).0 is) on)

  abbrev Ends : State S M → Type 0
  Ends final = (events : List Event) × (run program net events ≡ Ok final) × IsEnd program net events final

  ends_at : (d m : ℕ) → m + d ≡ last → (events : List Event) (state final : State S M) → run program net events ≡ Ok state → Level program net m state
      → (orders : List (List ℕ)) → AreThoroughLaps program net state orders final → 3 * d + 1 ≤ length orders → Ends final
  ends_at d m sum events state final is level [] laps' enough = absurd (omega (arith, enough))
  ends_at zero m sum events state final is level (order ∷ orders) (all, (next, turns, rest)) enough =
      let passed = laps ok runs order state next level.kept turns in
      let same : m ≡ last = omega (arith, sum) in
      let stuck = terminal ok runs order state next all (subst (λ k. Level program net k state) same level) passed in
      let now = run_on events passed.events state next is passed.leads in
      subst (λ s. Ends s) (sym (no_lap next stuck orders final rest))
      (events ++ passed.events, now, end_of ok runs (events ++ passed.events) next now stuck)
  ends_at (suc d) m sum events state final is level (o1 ∷ []) laps' enough = absurd (omega (arith, enough))
  ends_at (suc d) m sum events state final is level (o1 ∷ o2 ∷ []) laps' enough = absurd (omega (arith, enough))
  ends_at (suc d) m sum events state final is level (o1 ∷ o2 ∷ o3 ∷ orders) (all1, (s1, turns1, (all2, (s2, turns2, (all3, (s3, turns3, rest)))))) enough =
      let one = laps ok runs o1 state s1 level.kept turns1 in
      let two = laps ok runs o2 s1 s2 one.kept turns2 in
      let three = laps ok runs o3 s2 s3 two.kept turns3 in
      let below : m < last = omega (arith, sum) in
      let up = level_up ok runs m below state s1 s2 s3 o1 o2 o3 all1 all2 all3 level one two three in
      let now1 = run_on events one.events state s1 is one.leads in
      let now2 = run_on (events ++ one.events) two.events s1 s2 now1 two.leads in
      let now3 = run_on ((events ++ one.events) ++ two.events) three.events s2 s3 now2 three.leads in
      ends_at d (suc m) (omega (arith, sum)) (((events ++ one.events) ++ two.events) ++ three.events) s3 final now3 up orders rest (omega (arith, enough))

  pub few : ThoroughLapsEnd program net
  few [] final laps' enough = absurd (omega (arith, enough))
  few (order ∷ orders) final (all, (next, turns, rest)) enough =
      let passed = laps ok runs order (start program net) next (start_good ok runs) turns in
      let level = level_on ok runs 0 order (start program net) next all passed (λ v vertex. omega arith) in
      ends_at last 0 (omega arith) passed.events next final (run_on [] passed.events (start program net) next refl passed.leads) level orders rest
      (omega (arith, enough))
