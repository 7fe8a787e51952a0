use Rattle.std.proofs.Common.{◌≡◌, ◌+◌, ◌-◌, ◌<◌, [], length, set, subst, sym, ap, ◌∙◌, arith}
use Rattle.std.proofs.lemmas.List.{get_or-map, length-map, map-set}
use Rattle.port_rows.specs.Crossing.{IsCrossedTo, place, with_row}
use Rattle.port_rows.specs.Rows.{HasShape, rows_of}
use Rattle.port_rows.proofs.Swaps.{taken_out}
use Rattle.port_rows.proofs.cross.crossed.Given.{Over}
use Rattle.port_rows.proofs.cross.crossed.Goals.{After-replace-row}
use Rattle.port_rows.proofs.cross.crossed.Goals as goal

-- the rows with the row put back are the rows
module _ (g : Over) (c : After-replace-row g) where
  whole : with_row (rows_of (set c.loop-v.rows.items c.loop-v.v c.replace-row.new.dest)) (c.loop-v.v + 1) c.replace-row.result.items
      ≡ rows_of c.loop-v.rows.items
  whole =
      let rows = c.loop-v.rows.items in
      let v = c.loop-v.v in
      let same : v + 1 - 1 ≡ v = omega arith in
      let lt : v < length rows =
      omega (arith, c.loop-v-test.true, c.nodes-v-end.ensures.count, c.loop-v.invariant.shape.count, length-map rows (λ r. r.items)) in
      let is = ap (λ r. r.items) (c.replace-row.ensures.value ∙ c.index_mut.ensures.value)
      ∙ sym (get_or-map (λ r. r.items) rows v c.index_mut.result.now [] lt) in
      ap (λ k. set (rows_of (set rows v c.replace-row.new.dest)) k c.replace-row.result.items) same
      ∙ ap (λ l. set l v c.replace-row.result.items) (map-set (λ r. r.items) rows v c.replace-row.new.dest)
      ∙ taken_out (rows_of rows) v c.replace-row.result.items _ is

pub cross_row-requires-clause-shape : goal.cross_row-requires-clause-shape
cross_row-requires-clause-shape g c =
    let at = (goal.at.cross_row-requires-clause-shape g c).After-replace-row in
    subst (λ rows. HasShape c.args.net.now rows) (sym (whole g at)) c.loop-v.invariant.shape

pub loop-v-preserved : goal.loop-v-preserved
loop-v-preserved g c =
    let at = (goal.at.loop-v-preserved g c).After-replace-row in
    let v = c.loop-v.v in
    let all = rows_of c.args.rows.items in
    let same : v + 1 - 1 ≡ v = omega arith in
    subst (λ rows. IsCrossedTo c.args.net.now all (place (v + 1 + 1) 0) rows)
    (ap (λ k. set (rows_of c.cross_row.new.rows.items) k c.cross_row.new.row.items) same
    ∙ sym (map-set (λ r. r.items) c.cross_row.new.rows.items v c.cross_row.new.row))
    (c.cross_row.ensures.crossed all
    (subst (λ rows. IsCrossedTo c.args.net.now all (place (v + 1) 0) rows) (sym (whole g at)) c.loop-v.invariant))
