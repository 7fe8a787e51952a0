use Rattle.std.proofs.Common.{◌≡◌, ◌-◌, ◌<◌, ◌∷◌, ◌++◌, [], length, set, sym, ap, ◌∙◌, arith}
use Rattle.std.proofs.lemmas.List.{get_or-map, map-set}
use Rattle.port_rows.specs.Rows.{row_at, rows_of}
use Rattle.node_runs.proofs.making.push_to.Goals as goal

pub returns : goal.returns
returns g c =
    let rows = c.args.rows.now.items in
    let v = c.args.v in
    let in_rows : v - 1 < length rows = omega (arith, c.requires.row.0, c.requires.row.1, c.args.rows.now.ok.0) in
    let read : c.index_mut.result.now.items ≡ row_at (rows_of rows) v =
    ap (λ row. row.items) c.index_mut.ensures.value ∙ sym (get_or-map (λ row. row.items) rows (v - 1) c.index_mut.result.now [] in_rows) in
    record {
      rows = map-set (λ row. row.items) rows (v - 1) c.push.new.self
          ∙ ap (λ l. set (rows_of rows) (v - 1) l) (c.in_ok-push.ensures.items ∙ ap (λ l. l ++ c.args.thing ∷ []) read);
    }
