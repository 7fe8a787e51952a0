use Rattle.std.proofs.Common.{◌≡◌, [], take, drop}
use Rattle.channel_plan.specs.Checked.{IsTable, rows_fault}
use Rattle.channel_plan.proofs.checking.put_rows.Given as goal

-- the table has the rows so far, and the rows that are left have the first fault
abbrev pub invariant-loop-row : goal.invariant-loop-row
invariant-loop-row l = record {
  table : IsTable l.net (take l.row-index l.rows) l.table;
  left : rows_fault l.net [] l.rows ≡ rows_fault l.net (take l.row-index l.rows) (drop l.row-index l.rows);
}
