use Rattle.std.proofs.Common.{◌∙◌, ap, fold, refl}
use Rattle.std.proofs.lemmas.List.{take_all}
use Rattle.clap.specs.Words.{app_of}
use Rattle.command_line.specs.Line.{with_row}
use Rattle.command_line.proofs.Folding.{fold_one}
use Rattle.command_line.proofs.Refused.{err_says}
use Rattle.command_line.proofs.line.with_rows.Goals as goal

pub loop-row-init : goal.loop-row-init
loop-row-init c = record { shape = refl; local = c.requires }

pub loop-row-preserved : goal.loop-row-preserved
loop-row-preserved c = record {
  shape = fold_one with_row (app_of c.args.program) c.args.rows.now c.loop-row.row-index _ c.loop-row-test.true (app_of c.loop-row.program)
      (app_of c.in_ok-program.program) c.loop-row.invariant.shape c.in_ok-program.ensures.shape;
  local = c.in_ok-program.ensures.local;
}

pub returns-clause-shape : goal.returns-clause-shape
returns-clause-shape c =
    let all = take_all c.loop-row.row-index c.args.rows.now c.loop-row-test.false in
    c.loop-row.invariant.shape ∙ ap (fold with_row (app_of c.args.program)) all

pub returns-clause-local : goal.returns-clause-local
returns-clause-local c = c.loop-row.invariant.local

pub returns-in_err-program-clause-shape : goal.returns-in_err-program-clause-shape
returns-in_err-program-clause-shape c = err_says _ _ c.from_residual.result c.from_residual.ensures.1

pub returns-in_err-program-clause-local : goal.returns-in_err-program-clause-local
returns-in_err-program-clause-local c = err_says _ _ c.from_residual.result c.from_residual.ensures.1
