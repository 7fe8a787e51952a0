use Rattle.std.proofs.Common.{◌∙◌, ap, fold}
use Rattle.std.proofs.lemmas.Result.{IfOk-weaker}
use Rattle.clap.specs.Words.{app_of, with_subcommand}
use Rattle.command_line.specs.Line.{with_option}
use Rattle.command_line.proofs.Refused.{err_says}
use Rattle.command_line.proofs.line.with_row.Goals as goal

pub returns-clause-shape : goal.returns-clause-shape
returns-clause-shape c =
    let sub = c.in_ok-sub.ensures.shape ∙ ap (λ a. fold with_option a c.args.row.options.now) c.command.ensures.shape in
    IfOk-weaker c.with_command.result _ _ (λ m h. h ∙ ap (λ a. with_subcommand (app_of c.args.program) a.top) sub) c.with_command.ensures.shape

pub returns-in_err-sub-clause-shape : goal.returns-in_err-sub-clause-shape
returns-in_err-sub-clause-shape c = err_says _ _ c.from_residual.result c.from_residual.ensures.1

pub returns-in_err-sub-clause-local : goal.returns-in_err-sub-clause-local
returns-in_err-sub-clause-local c = err_says _ _ c.from_residual.result c.from_residual.ensures.1
