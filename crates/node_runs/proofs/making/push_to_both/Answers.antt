use Rattle.std.proofs.Common.{◌≡◌, ◌-◌, ◌∙◌, IfOk, length, subst, ap, arith}
use Rattle.std.proofs.lemmas.List.{length-map, length-set}
use Rattle.port_rows.specs.Rows.{rows_of}
use Rattle.node_runs.specs.Makes.{row_more}
use Rattle.node_runs.proofs.making.push_to_both.Goals as goal

-- a row that grew leaves as many rows
pub push_to-requires-2 : goal.push_to-requires-2
push_to-requires-2 g c =
    let old = c.args.rows.now in
    let new = c.push_to.new.rows in
    let long = ap length c.in_ok-push_to.ensures.rows ∙ length-set (rows_of old.items) (c.args.v - 1) _ in
    record {
      row = (
        c.requires.other_row.0,
        omega (arith, c.requires.other_row.1, long, length-map new.items (λ row. row.items), length-map old.items (λ row. row.items), new.ok.0, old.ok.0),
      );
    }

pub returns : goal.returns
returns g c = record {
  rows = subst (λ rows. IfOk c.push_to-2.result (λ _. rows_of c.push_to-2.new.rows.items ≡ row_more rows c.args.w c.args.other))
      c.in_ok-push_to.ensures.rows c.push_to-2.ensures.rows;
}
