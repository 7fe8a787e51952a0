-- The plan: of the four exits the first three leave rows and state, and the event has no place in this tick (`none`, `misplaced`, `stuck`); the last
-- makes it (`made`).
use Rattle.std.proofs.Common.{◌++◌, ◌∷◌, [], refl, subst, sym}
use Rattle.interference.specs.Net.{IsNetwork}
use Rattle.entries.specs.declared.rows.StampedRow.{StampedRow}
use Rattle.event_rule.specs.Whole.{IsStampedReplay}
use Rattle.lone_runs.specs.Recorded.{IsRecorded}
use Rattle.lone_runs.specs.Ticks.{IsAbove, IsInTurn, IsPassed}
use Rattle.lone_runs.proofs.LinksLater.{writes_of}
use Rattle.lone_runs.proofs.Recorded.{recorded_more}
use Rattle.lone_runs.proofs.Ticks.{made, misplaced, own}
use Rattle.event_rule.specs.Commute.{vertex_of}
use Rattle.lone_runs.proofs.recording.record.Goals as goal

-- no row is written, since the event isn't possible
pub returns-in_default-clause-passed : goal.returns-in_default-clause-passed
returns-in_default-clause-passed g c = record { here = λ can. absurd (c.in_default.ensures.none can); others = λ other same above. above }

-- or since it has another stamp
pub returns-then-not-is_in_place-clause-passed : goal.returns-then-not-is_in_place-clause-passed
returns-then-not-is_in_place-clause-passed g c =
    let program = g.P.NodeProgram.program in
    let old = c.args.recording.now in
    let bare = c.in-Some.bare in
    record {
      here = misplaced program old.state.net old.rows.items old.state.state c.args.event c.args.stamp bare.vertex bare.entry
          (writes_of program old.state.net old.state.state c.args.event bare c.in-Some.ensures.row) c.requires.turn
          (c.if-not-is_in_place.ensures.place old.rows.items c.requires.recorded.table_is);
      others = λ other same above. above;
    }

-- the state is as it was
pub returns-then-not-did-clause-turn : goal.returns-then-not-did-clause-turn
returns-then-not-did-clause-turn g c =
    let old = c.args.recording.now in
    subst (λ at. IsInTurn g.P.NodeProgram.program at.net at.state old.rows.items c.args.stamp (vertex_of c.args.event))
    (sym (c.in_ok-did.ensures.went.none c.if-not-did.true)) c.requires.turn

pub returns-then-not-did-clause-passed : goal.returns-then-not-did-clause-passed
returns-then-not-did-clause-passed g c =
    let program = g.P.NodeProgram.program in
    let old = c.args.recording.now in
    record {
      here = λ can. absurd (c.in_ok-did.ensures.stuck c.if-not-did.true can);
      others = λ other same above.
          subst (λ at. IsAbove program at.net at.state old.rows.items c.args.stamp other) (sym (c.in_ok-did.ensures.went.none c.if-not-did.true)) above;
    }

-- the row is in place behind the others, and its event was made
pub returns-clause-recorded : goal.returns-clause-recorded
returns-clause-recorded g c =
    let program = g.P.NodeProgram.program in
    let old = c.args.recording.now in
    let row : StampedRow _ = record { stamp = c.args.stamp; vertex = c.in-Some.bare.vertex; entry = c.in-Some.bare.entry } in
    let place = c.if-not-is_in_place.ensures.place old.rows.items c.requires.recorded.table_is in
    let rows = old.rows.items ++ (row ∷ []) in
    let next = c.attempt.new.state in
    let more = recorded_more program old.state.net old.rows.items row old.state.state next.state c.args.event c.requires.recorded.replay
    c.in-Some.ensures.event c.in-Some.ensures.row (c.in_ok-did.ensures.made c.if-not-did.false) place in
    subst (λ l. IsRecorded program next l c.add.new.self) (sym c.in_ok-push.ensures.items)
    (record {
      replay = subst (λ n. IsStampedReplay program n rows next.state) (sym c.in_ok-did.ensures.went.net) more;
      table_is = c.in_ok-add.ensures.added old.rows.items c.requires.recorded.table_is place;
    })

pub returns-clause-turn : goal.returns-clause-turn
returns-clause-turn g c =
    let program = g.P.NodeProgram.program in
    let old = c.args.recording.now in
    let net = old.state.net in
    let bare = c.in-Some.bare in
    let event = c.args.event in
    let row : StampedRow _ = record { stamp = c.args.stamp; vertex = bare.vertex; entry = bare.entry } in
    let rows = old.rows.items ++ (row ∷ []) in
    let next = c.attempt.new.state in
    let ok = subst IsNetwork c.network.ensures.network c.nodes.ensures.network in
    subst (λ l. IsInTurn program next.net next.state l c.args.stamp (vertex_of event)) (sym c.in_ok-push.ensures.items)
    (subst (λ n. IsInTurn program n next.state rows c.args.stamp (vertex_of event)) (sym c.in_ok-did.ensures.went.net)
    (made program net g.P.NodeProgram.laws ok old.rows.items old.state.state next.state event c.args.stamp bare.vertex bare.entry
    c.is_simulation.ensures.reached (c.in_ok-did.ensures.made c.if-not-did.false)
    (writes_of program net old.state.state event bare c.in-Some.ensures.row) c.requires.turn))

pub returns-clause-passed : goal.returns-clause-passed
returns-clause-passed g c =
    let program = g.P.NodeProgram.program in
    let old = c.args.recording.now in
    let net = old.state.net in
    let bare = c.in-Some.bare in
    let event = c.args.event in
    let row : StampedRow _ = record { stamp = c.args.stamp; vertex = bare.vertex; entry = bare.entry } in
    let rows = old.rows.items ++ (row ∷ []) in
    let next = c.attempt.new.state in
    let ok = subst IsNetwork c.network.ensures.network c.nodes.ensures.network in
    let above = own program net g.P.NodeProgram.laws ok old.rows.items old.state.state next.state event c.args.stamp bare.vertex bare.entry
    c.is_simulation.ensures.reached (c.in_ok-did.ensures.made c.if-not-did.false)
    (writes_of program net old.state.state event bare c.in-Some.ensures.row) in
    subst (λ l. IsPassed program old.state old.rows.items next l c.args.stamp event) (sym c.in_ok-push.ensures.items)
    (record {
      here = subst (λ n. IsAbove program n next.state rows c.args.stamp event) (sym c.in_ok-did.ensures.went.net) (above event refl);
      others = λ other same _. subst (λ n. IsAbove program n next.state rows c.args.stamp other) (sym c.in_ok-did.ensures.went.net) (above other same);
    })
