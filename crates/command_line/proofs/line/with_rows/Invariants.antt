use Rattle.std.proofs.Common.{◌≡◌, fold, take}
use Rattle.clap.specs.Words.{app_of}
use Rattle.command_line.specs.Line.{IsLocal, with_row}
use Rattle.command_line.proofs.line.with_rows.Given as goal

-- the commands so far
abbrev pub invariant-loop-row : goal.invariant-loop-row
invariant-loop-row l = record {
  shape : app_of l.program ≡ fold with_row (app_of l.initial.program) (take l.row-index l.rows);
  local : IsLocal l.program;
}
