use Rattle.std.proofs.Common.{◌∙◌, ap, fold, refl}
use Rattle.std.proofs.lemmas.List.{take_all}
use Rattle.clap.specs.Words.{app_of}
use Rattle.command_line.specs.Line.{with_option}
use Rattle.command_line.proofs.Folding.{fold_one}
use Rattle.command_line.proofs.Refused.{err_says}
use Rattle.command_line.proofs.line.with_options.Goals as goal

pub loop-option-init : goal.loop-option-init
loop-option-init c = record { shape = refl; local = c.requires }

pub loop-option-preserved : goal.loop-option-preserved
loop-option-preserved c = record {
  shape = fold_one with_option (app_of c.args.command) c.args.options.now c.loop-option.option-index _ c.loop-option-test.true (app_of c.loop-option.command)
      (app_of c.in_ok-command.command) c.loop-option.invariant.shape c.in_ok-command.ensures.shape;
  local = c.in_ok-command.ensures.local;
}

pub returns-clause-shape : goal.returns-clause-shape
returns-clause-shape c =
    let all = take_all c.loop-option.option-index c.args.options.now c.loop-option-test.false in
    c.loop-option.invariant.shape ∙ ap (fold with_option (app_of c.args.command)) all

pub returns-clause-local : goal.returns-clause-local
returns-clause-local c = c.loop-option.invariant.local

pub returns-in_err-command-clause-shape : goal.returns-in_err-command-clause-shape
returns-in_err-command-clause-shape c = err_says _ _ c.from_residual.result c.from_residual.ensures.1

pub returns-in_err-command-clause-local : goal.returns-in_err-command-clause-local
returns-in_err-command-clause-local c = err_says _ _ c.from_residual.result c.from_residual.ensures.1
