use Rattle.std.proofs.Common.{◌≡◌, ◌-◌, ◌<◌, [], length, set, get_or, subst, sym, ap, ◌∙◌, arith}
use Rattle.std.proofs.lemmas.List.{get_or-map, length-map, map-set}
use Rattle.port_rows.specs.Crossing.{IsSwapped, with_row}
use Rattle.port_rows.specs.Rows.{row_at, rows_of}
use Rattle.port_rows.proofs.Swaps.{swapped}
use Rattle.port_rows.proofs.cross.swap_things.Goals as goal

pub returns-clause-swapped : goal.returns-clause-swapped
returns-clause-swapped g c =
    let vectors = c.args.rows.now.items in
    let rows = rows_of vectors in
    let row = c.args.row.now.items in
    let v = c.args.v in
    let i = c.args.i in
    let w = c.args.w in
    let j = c.args.j in
    let read = c.index_mut-2.result.now in
    let x = c.index_mut.result.now in
    let y = c.index_mut-3.result.now in
    let in_rows : w - 1 < length vectors = omega (arith, c.requires.vertices.0, c.requires.vertices.1, c.requires.vertices.2, c.args.rows.now.ok.0) in
    let is : read.items ≡ row_at rows w =
    ap (λ r. r.items) c.index_mut-2.ensures.value ∙ sym (get_or-map (λ r. r.items) vectors (w - 1) read [] in_rows) in
    let left = map-set (λ r. r.items) vectors (w - 1) _
    ∙ ap (λ l. set rows (w - 1) (set l j c.swap.new.y)) is ∙ ap (λ z. set rows (w - 1) (set (row_at rows w) j z)) c.swap.ensures.y_after in
    subst (λ t. IsSwapped (with_row rows v row) v i w j t)
    (sym (ap (λ l. set l (v - 1) (set row i c.swap.new.x)) left
    ∙ ap (λ z. set (set rows (w - 1) (set (row_at rows w) j x)) (v - 1) (set row i z)) c.swap.ensures.x_after))
    (swapped rows row v i w j x y c.requires.vertices.0 c.requires.vertices.1 (omega (arith, in_rows, length-map vectors (λ r. r.items)))
    (omega (arith, c.requires.here, c.args.row.now.ok.0)) c.requires.there c.index_mut.ensures.value
    (c.index_mut-3.ensures.value ∙ ap (λ l. get_or l j y) is))
