use Rattle.std.proofs.Common.{◌∙◌, ap, subst, take}
use Rattle.net_core.specs.declared.refused.WholeRefused.TheVariants.{Replay}
use Rattle.net_core.specs.Replays.{IsMade, WhyNot, at_entry}
use Rattle.stamps.specs.Table.{IsTableOf}
use Rattle.event_machine.proofs.Stamped.{rows-more, stamped-next}
use Rattle.net_core.proofs.WholeReplays.{stops-entry, stops-stamp}
use Rattle.net_core.proofs.whole.replay_row.Goals as goal

pub returns-in-Err-clause-refuses : goal.returns-in-Err-clause-refuses
returns-in-Err-clause-refuses g c =
    let program = g.P.NodeProgram.program in
    let old = c.args.state.now in
    let i = c.args.index in
    λ never. stops-entry program old.net c.args.rows.now i c.index-rows-index.result old.state c.requires.row c.index-rows-index.is c.requires.replay
    c.in-Err.refused c.at.result
    (subst (λ r. WhyNot program old.net old.state r c.in-Err.refused) c.without_stamp.ensures.row
    (c.in-Err.ensures.refused (λ e. never (ap Replay (c.at.ensures.index ∙ ap (λ r. at_entry i r) e)))))
    c.at.ensures.index

pub returns-then-not-is_in_place-clause-refuses : goal.returns-then-not-is_in_place-clause-refuses
returns-then-not-is_in_place-clause-refuses g c =
    let program = g.P.NodeProgram.program in
    let old = c.args.state.now in
    let i = c.args.index in
    let made = subst (λ r. IsMade program old r c.make_entry.new.state) c.without_stamp.ensures.row c.in-Ok.ensures.made in
    λ never. stops-stamp program old.net c.args.rows.now i c.index-rows-index.result old.state c.requires.row c.index-rows-index.is c.requires.replay
    c.make_entry.new.state.state made.leads made.writes (c.if-not-is_in_place.ensures.place (take i c.args.rows.now) c.requires.table)

pub returns-clause-replay : goal.returns-clause-replay
returns-clause-replay g c =
    let program = g.P.NodeProgram.program in
    let old = c.args.state.now in
    let i = c.args.index in
    let made = subst (λ r. IsMade program old r c.make_entry.new.state) c.without_stamp.ensures.row c.in-Ok.ensures.made in
    stamped-next program old.net c.args.rows.now i c.index-rows-index.result old.state c.make_entry.new.state.state c.requires.row
    c.index-rows-index.is c.requires.replay made.leads made.writes (c.if-not-is_in_place.ensures.place (take i c.args.rows.now) c.requires.table)

pub returns-clause-table : goal.returns-clause-table
returns-clause-table g c =
    let i = c.args.index in
    let before = take i c.args.rows.now in
    subst (λ l. IsTableOf l c.add.new.self) (rows-more c.args.rows.now i c.index-rows-index.result c.requires.row c.index-rows-index.is)
    (c.in_ok-add.ensures.added before c.requires.table (c.if-not-is_in_place.ensures.place before c.requires.table))
