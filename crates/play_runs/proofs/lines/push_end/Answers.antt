use Rattle.dimacs_col.proofs.Refused.{err_says}
use Rattle.play_runs.proofs.lines.push_end.Goals as goal

pub returns-in_err-push_numbered : goal.returns-in_err-push_numbered
returns-in_err-push_numbered g c = err_says _ _ c.from_residual.result c.from_residual.ensures.1

pub returns-in_err-push_numbered-2 : goal.returns-in_err-push_numbered-2
returns-in_err-push_numbered-2 g c = err_says _ _ c.from_residual-in_err-push_numbered-2.result c.from_residual-in_err-push_numbered-2.ensures.1

pub returns-in_err-push_result : goal.returns-in_err-push_result
returns-in_err-push_result g c = err_says _ _ c.from_residual-in_err-push_result.result c.from_residual-in_err-push_result.ensures.1

pub returns-in_err-push : goal.returns-in_err-push
returns-in_err-push g c = err_says _ _ c.from_residual-in_err-push.result c.from_residual-in_err-push.ensures.1
