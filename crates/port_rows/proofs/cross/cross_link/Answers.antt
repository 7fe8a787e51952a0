use Rattle.std.proofs.Common.{◌<◌, subst, arith, ⊎_elim}
use Rattle.std.proofs.lemmas.Bool.{cases_eq}
use Rattle.interference.specs.Net.{back_port_of, neighbour_of}
use Rattle.port_rows.specs.Crossing.{IsSwapped, with_row}
use Rattle.port_rows.specs.Rows.{rows_of}
use Rattle.port_rows.proofs.Crosses.{crossed_over, passed_over}
use Rattle.port_rows.proofs.cross.cross_link.Goals as goal

pub returns-then-w-v-clause-crossed : goal.returns-then-w-v-clause-crossed
returns-then-w-v-clause-crossed g c all to =
    passed_over c.args.net.now c.neighbour-w.ensures.network all c.args.v c.args.i c.requires.vertex c.requires.port _ to
    (omega (arith, c.if-w-v.true, c.neighbour-w.ensures.value))

pub returns-clause-crossed : goal.returns-clause-crossed
returns-clause-crossed g c all to =
    let net = c.args.net.now in
    let ok = c.neighbour-w.ensures.network in
    let old = with_row (rows_of c.args.rows.now.items) c.args.v c.args.row.now.items in
    let new = with_row (rows_of c.swap_things.new.rows.items) c.args.v c.swap_things.new.row.items in
    let apart = ok.other c.args.v c.args.i c.requires.vertex c.requires.port in
    let high : c.args.v < neighbour_of net c.args.v c.args.i =
    ⊎_elim (λ e. absurd (apart e)) (λ ne. omega (arith, ne, c.if-w-v.false, c.neighbour-w.ensures.value))
    (cases_eq (neighbour_of net c.args.v c.args.i) c.args.v) in
    crossed_over net ok all c.args.v c.args.i c.requires.vertex c.requires.port old to high new
    (subst (λ w. IsSwapped old c.args.v c.args.i w (back_port_of net c.args.v c.args.i) new) c.neighbour-w.ensures.value
    (subst (λ j. IsSwapped old c.args.v c.args.i c.neighbour-w.result j new) c.back_port.ensures.value c.swap_things.ensures.swapped))
