-- Entries decide their events (row-event, events-from), and so whether they are a replay (next-is, never-both),
-- and where they stop, and why (stops-once).
use Rattle.std.proofs.Common.{◌≡◌, ◌+◌, ◌∙◌, ℕ, suc, Bool, true, false, Option, Some, None, List, [], ◌∷◌, ◌++◌, map, slice_get, Result, Ok, Err}
use Rattle.std.proofs.Common.{◌⊎◌, inl, inr, ap, ap₂, length, refl, subst, sym, ⊎_elim}
use Rattle.std.specs.Option.{option_map}
use Rattle.interference.specs.Net.{IsNetwork, Net, neighbour_of, port_to}
use Rattle.interference.proofs.Neighbours.{port_to-is}
use Rattle.node_api.specs.Program.{Program}
use Rattle.wires.specs.declared.wire.Wire.{Wire}
use Rattle.alpha_core.specs.View.{port_at}
use Rattle.entries.specs.declared.entry.Entry.TheVariants as entry
use Rattle.entries.specs.Rows.{vertex_row}
use Rattle.event_rule.specs.declared.event.Event.{Event}
use Rattle.event_rule.specs.declared.event.Event.TheVariants.{Pulse, Put, Take}
use Rattle.event_rule.specs.declared.refused.StepRefused.{StepRefused}
use Rattle.event_rule.specs.declared.refused.RunRefused.TheVariants as run
use Rattle.event_rule.specs.declared.refused.StepRefused.TheVariants.{LinkEmpty, Memory, NoSuch, NotReady, NothingToPut}
use Rattle.event_rule.specs.State.{State, link_to, node_of, start}
use Rattle.event_rule.specs.Step.{go_on, has_port, run_from, step}
use Rattle.event_rule.proofs.NetKept.{port_from}
use Rattle.net_core.specs.declared.refused.EntryRefused.{EntryRefused}
use Rattle.net_core.specs.declared.refused.EntryRefused.TheVariants.{Step, WrongWire}
use Rattle.net_core.specs.declared.refused.ReplayRefused.{ReplayRefused}
use Rattle.net_core.specs.declared.refused.ReplayRefused.TheVariants as replay
use Rattle.net_core.specs.Laws.{ReplaysAreExact}
use Rattle.event_rule.specs.Replays.{IsReplay}
use Rattle.net_core.specs.Replays.{Stops, WhyNot, at_entry}
use Rattle.entries.specs.declared.rows.Row.{Row}
use Rattle.event_rule.specs.Rows.{event_of, if_made, row_of, rows_from}

head-is : {A : Type 0} (x y : A) (xs ys : List A) → x ∷ xs ≡ y ∷ ys → x ≡ y
head-is x y xs ys e = cc

tail-is : {A : Type 0} (x y : A) (xs ys : List A) → x ∷ xs ≡ y ∷ ys → xs ≡ ys
tail-is x y xs ys e = cc

-- A list that is split at an entry twice: in the same place, or else one of the entries is before the other.
pub split-twice : {A : Type 0} (xs ys us ws : List A) (x y : A) → xs ++ (x ∷ us) ≡ ys ++ (y ∷ ws)
    → ((xs ≡ ys) × (x ≡ y)) ⊎ (((m : List A) × (ys ≡ xs ++ (x ∷ m))) ⊎ ((m : List A) × (xs ≡ ys ++ (y ∷ m))))
split-twice [] [] us ws x y e = inl (refl, head-is x y us ws e)
split-twice [] (z ∷ ys) us ws x y e = inr (inl (ys, ap (λ h. h ∷ ys) (sym (head-is x z us (ys ++ (y ∷ ws)) e))))
split-twice (z ∷ xs) [] us ws x y e = inr (inr (xs, ap (λ h. h ∷ xs) (head-is z y (xs ++ (x ∷ us)) ws e)))
split-twice (z ∷ xs) (w ∷ ys) us ws x y e =
    let h = head-is z w (xs ++ (x ∷ us)) (ys ++ (y ∷ ws)) e in
    ⊎_elim (λ same. inl (ap₂ (λ a l. a ∷ l) h same.0, same.1))
    (λ other. inr (⊎_elim (λ m. inl (m.0, ap₂ (λ a l. a ∷ l) (sym h) m.1)) (λ m. inr (m.0, ap₂ (λ a l. a ∷ l) h m.1)) other))
    (split-twice xs ys us ws x y (tail-is z w (xs ++ (x ∷ us)) (ys ++ (y ∷ ws)) e))

module _ {S M E : Type 0} (program : Program S M E) (net : Net) (ok : IsNetwork net) where
  abbrev events_of : List (Row M) → List Event
  events_of rows = map (λ row. event_of net row) rows

  put-there : (state next : State S M) (v i : ℕ) → step program net state (Put v i) ≡ Ok next → has_port net v i ≡ true
  put-there state next v i e = by-test (has_port net v i) refl
    where
      by-test : (b : Bool) → has_port net v i ≡ b → has_port net v i ≡ true
      by-test true t = t
      by-test false t =
          let no : step program net state (Put v i) ≡ Err NoSuch = rw t refl in
          let wrong : ◌≡◌ {A = Result (State S M) StepRefused} (Err NoSuch) (Ok next) = sym no ∙ e in absurd cc

  take-there : (state next : State S M) (v i : ℕ) → step program net state (Take v i) ≡ Ok next → has_port net v i ≡ true
  take-there state next v i e = by-test (has_port net v i) refl
    where
      by-test : (b : Bool) → has_port net v i ≡ b → has_port net v i ≡ true
      by-test true t = t
      by-test false t =
          let no : step program net state (Take v i) ≡ Err NoSuch = rw t refl in
          let wrong : ◌≡◌ {A = Result (State S M) StepRefused} (Err NoSuch) (Ok next) = sym no ∙ e in absurd cc

  back : (v i : ℕ) → has_port net v i ≡ true → port_to net v (neighbour_of net v i) ≡ i
  back v i t = let there = port_from net v i t in port_to-is net ok v i there.0 there.1

  put-row : (v i : ℕ) (row : Row M) (oldest : Option (Wire M)) → has_port net v i ≡ true →
      option_map (λ wire. vertex_row v (entry.Put (neighbour_of net v i) wire)) oldest ≡ Some row → Put v i ≡ event_of net row
  put-row v i row None t e = absurd cc
  put-row v i row (Some wire) t e =
      let same : ◌≡◌ {A = Row M} (vertex_row v (entry.Put (neighbour_of net v i) wire)) row = cc in
      ap (λ k. Put v k) (sym (back v i t)) ∙ ap (λ r. event_of net r) same

  take-row : (v i : ℕ) (row : Row M) (oldest : Option (Wire M)) → has_port net v i ≡ true →
      option_map (λ wire. vertex_row v (entry.Take (neighbour_of net v i) wire)) oldest ≡ Some row → Take v i ≡ event_of net row
  take-row v i row None t e = absurd cc
  take-row v i row (Some wire) t e =
      let same : ◌≡◌ {A = Row M} (vertex_row v (entry.Take (neighbour_of net v i) wire)) row = cc in
      ap (λ k. Take v k) (sym (back v i t)) ∙ ap (λ r. event_of net r) same

  -- an event that is possible is the one that its entry is of
  row-event : (state next : State S M) (event : Event) (row : Row M) → step program net state event ≡ Ok next →
      row_of program net state event ≡ Some row → event ≡ event_of net row
  row-event state next (Pulse v) row made writes =
      let same : ◌≡◌ {A = Row M} (vertex_row v (entry.Pulse ((node_of program net state v).view.pulse + 1))) row = cc in ap (λ r. event_of net r) same
  row-event state next (Put v i) row made writes =
      put-row v i row (slice_get (port_at (node_of program net state v).view i).out 0) (put-there state next v i made) writes
  row-event state next (Take v i) row made writes =
      take-row v i row (slice_get (link_to net state.links v i).held 0) (take-there state next v i made) writes

  -- the first event of a run, and the entry that it writes down
  record First (k : ℕ) (event : Event) (events : List Event) (row : Row M) (rows : List (Row M)) (state last : State S M) : Type 0 where
    next : State S M
    made : step program net state event ≡ Ok next
    writes : row_of program net state event ≡ Some row
    is_run : run_from program net (suc k) events next ≡ Ok last
    rows_are : rows_from program net next events ≡ map (λ r. Some r) rows

  first : (k : ℕ) (event : Event) (events : List Event) (row : Row M) (rows : List (Row M)) (state last : State S M)
      → run_from program net k (event ∷ events) state ≡ Ok last
      → rows_from program net state (event ∷ events) ≡ map (λ r. Some r) (row ∷ rows) → First k event events row rows state last
  first k event events row rows state last run are =
      let behind = if_made (step program net state event) (λ n. rows_from program net n events) in
      by-step (step program net state event) refl run (tail-is (row_of program net state event) (Some row) behind (map (λ r. Some r) rows) are)
      (head-is (row_of program net state event) (Some row) behind (map (λ r. Some r) rows) are)
    where
      by-step : (r : Result (State S M) StepRefused) → step program net state event ≡ r
          → go_on k r (λ n. run_from program net (suc k) events n) ≡ Ok last
          → if_made r (λ n. rows_from program net n events) ≡ map (λ r. Some r) rows
          → row_of program net state event ≡ Some row → First k event events row rows state last
      by-step (Ok n) made run left here = record { next = n; made = made; writes = here; is_run = run; rows_are = left }
      by-step (Err reason) made run left here = absurd cc

  events-from : (k : ℕ) (events : List Event) (rows : List (Row M)) (state last : State S M) → run_from program net k events state ≡ Ok last →
      rows_from program net state events ≡ map (λ r. Some r) rows → events ≡ events_of rows
  events-from k [] [] state last run are = refl
  events-from k [] (row ∷ rows) state last run are = absurd cc
  events-from k (event ∷ events) [] state last run are = absurd cc
  events-from k (event ∷ events) (row ∷ rows) state last run are =
      let f = first k event events row rows state last run are in
      ap (λ e. e ∷ events) (row-event state f.next event row f.made f.writes)
      ∙ ap (λ es. event_of net row ∷ es) (events-from (suc k) events rows f.next last f.is_run f.rows_are)

  -- what a replay says of the entry behind some others
  next-is : (j k : ℕ) (events others : List Event) (before after : List (Row M)) (row : Row M) (state last reached : State S M)
      → run_from program net k events state ≡ Ok last → rows_from program net state events ≡ map (λ r. Some r) (before ++ (row ∷ after))
      → run_from program net j others state ≡ Ok reached → rows_from program net state others ≡ map (λ r. Some r) before
      → (next : State S M) × (step program net reached (event_of net row) ≡ Ok next) × (row_of program net reached (event_of net row) ≡ Some row)
  next-is j k [] others [] after row state last reached run are run' are' = absurd cc
  next-is j k [] others (r ∷ before) after row state last reached run are run' are' = absurd cc
  next-is j k (event ∷ events) (other ∷ others) [] after row state last reached run are run' are' = absurd cc
  next-is j k (event ∷ events) [] [] after row state last reached run are run' are' =
      let f = first k event events row after state last run are in
      let same : state ≡ reached = cc in
      let is = row-event state f.next event row f.made f.writes in (
        f.next,
        ap (λ s. step program net s (event_of net row)) (sym same) ∙ ap (λ e. step program net state e) (sym is) ∙ f.made,
        ap (λ s. row_of program net s (event_of net row)) (sym same) ∙ ap (λ e. row_of program net state e) (sym is) ∙ f.writes,
      )
  next-is j k (event ∷ events) [] (r ∷ before) after row state last reached run are run' are' = absurd cc
  next-is j k (event ∷ events) (other ∷ others) (r ∷ before) after row state last reached run are run' are' =
      let f = first k event events r (before ++ (row ∷ after)) state last run are in
      let o = first j other others r before state reached run' are' in
      let both = row-event state f.next event r f.made f.writes ∙ sym (row-event state o.next other r o.made o.writes) in
      let made : ◌≡◌ {A = Result (State S M) StepRefused} (Ok f.next) (Ok o.next) = sym f.made ∙ ap (λ e. step program net state e) both ∙ o.made in
      let same : f.next ≡ o.next = cc in
      next-is (suc j) (suc k) events others before after row f.next last reached f.is_run f.rows_are
      (ap (λ s. run_from program net (suc j) others s) same ∙ o.is_run) (ap (λ s. rows_from program net s others) same ∙ o.rows_are)

  pub refused-not : (reached next : State S M) (row : Row M) (reason : EntryRefused) → step program net reached (event_of net row) ≡ Ok next →
      row_of program net reached (event_of net row) ≡ Some row → WhyNot program net reached row reason → ⊥
  refused-not reached next row (Step reason) made writes why =
      let wrong : ◌≡◌ {A = Result (State S M) StepRefused} (Ok next) (Err reason) = sym made ∙ why in absurd cc
  refused-not reached next row WrongWire made writes why = why.2 writes

  -- an entry isn't written down in a state for one reason alone
  reason-is : (state : State S M) (row : Row M) (reason other : EntryRefused) → WhyNot program net state row reason → WhyNot program net state row other
      → reason ≡ other
  reason-is state row (Step reason) (Step other) why why' =
      let same : ◌≡◌ {A = Result (State S M) StepRefused} (Err reason) (Err other) = sym why ∙ why' in cc
  reason-is state row (Step reason) WrongWire why why' =
      let wrong : ◌≡◌ {A = Result (State S M) StepRefused} (Err reason) (Ok why'.0) = sym why ∙ why'.1 in absurd cc
  reason-is state row WrongWire (Step other) why why' =
      let wrong : ◌≡◌ {A = Result (State S M) StepRefused} (Ok why.0) (Err other) = sym why.1 ∙ why' in absurd cc
  reason-is state row WrongWire WrongWire why why' = refl

  -- a replay leads to one state alone
  state-is : (rows : List (Row M)) (last other : State S M) → IsReplay program net rows last → IsReplay program net rows other → last ≡ other
  state-is rows last other is same =
      let events = events-from 0 is.events rows (start program net) last is.is_run is.rows_are
      ∙ sym (events-from 0 same.events rows (start program net) other same.is_run same.rows_are) in
      let ends = sym is.is_run ∙ ap (λ es. run_from program net 0 es (start program net)) events ∙ same.is_run in
      cc

  -- entries that stop somewhere aren't a replay
  never-both : (rows : List (Row M)) (last : State S M) (refused : ReplayRefused) → IsReplay program net rows last → Stops program net rows refused → ⊥
  never-both rows last refused is stop =
      let rows_are = is.rows_are ∙ ap (λ l. map (λ r. Some r) l) stop.splits in
      let next = next-is 0 0 is.events stop.is_replay.events stop.before stop.after stop.row (start program net) last stop.reached is.is_run rows_are
      stop.is_replay.is_run stop.is_replay.rows_are in
      refused-not stop.reached next.0 stop.row stop.reason next.1 next.2 stop.why

  -- so the entries up to the second place aren't one that goes over the first
  never-over : (rows : List (Row M)) (refused : ReplayRefused) (a : Stops program net rows refused) (ys m : List (Row M)) (last : State S M)
      → IsReplay program net ys last → ys ≡ a.before ++ (a.row ∷ m) → ⊥
  never-over rows refused a ys m last is over = never-both ys last refused is record {
    before = a.before;
    row = a.row;
    after = m;
    splits = over;
    reached = a.reached;
    is_replay = a.is_replay;
    reason = a.reason;
    why = a.why;
    index = a.index;
  }

  stops-once : (rows : List (Row M)) (refused other : ReplayRefused) → Stops program net rows refused → Stops program net rows other → refused ≡ other
  stops-once rows refused other a b = ⊎_elim
      (λ same.
      let reached : a.reached ≡ b.reached =
      state-is b.before a.reached b.reached (subst (λ l. IsReplay program net l a.reached) same.0 a.is_replay) b.is_replay in
      let why = subst (λ r. WhyNot program net b.reached r a.reason) same.1 (subst (λ s. WhyNot program net s a.row a.reason) reached a.why) in
      a.index ∙ ap₂ (λ l r. at_entry (length l) r) same.0 (reason-is b.reached b.row a.reason b.reason why b.why) ∙ sym b.index)
      (λ apart. absurd (⊎_elim (λ m. never-over rows refused a b.before m.0 b.reached b.is_replay m.1)
      (λ m. never-over rows other b a.before m.0 a.reached a.is_replay m.1) apart))
      (split-twice a.before b.before a.after b.after a.row b.row (sym a.splits ∙ b.splits))

  pub decided : ReplaysAreExact program net
  decided = record {
    events = λ rows last is. events-from 0 is.events rows (start program net) last is.is_run is.rows_are;
    one_state = state-is;
    not_both = never-both;
    one_reason = stops-once;
  }

-- the refusal of an entry has the entry's index, unless memory ran out
pub by-index : (P : ReplayRefused → Type 0) (k : ℕ) → P (replay.Run (run.NotReady k)) → P (replay.Run (run.NothingToPut k)) →
    P (replay.Run (run.LinkEmpty k)) → P (replay.Run (run.NoSuch k)) → P (replay.Run run.Memory) → P (replay.WrongWire k) → (reason : EntryRefused) →
    P (at_entry k reason)
by-index P k ready put take such memory wire (Step NotReady) = ready
by-index P k ready put take such memory wire (Step NothingToPut) = put
by-index P k ready put take such memory wire (Step LinkEmpty) = take
by-index P k ready put take such memory wire (Step NoSuch) = such
by-index P k ready put take such memory wire (Step Memory) = memory
by-index P k ready put take such memory wire WrongWire = wire
