use Rattle.dimacs_col.proofs.Refused.{err_says}
use Rattle.event_texts.proofs.missing.push_lacking.Goals as goal

pub returns-in_err-push : goal.returns-in_err-push
returns-in_err-push g c = err_says _ _ c.from_residual.result c.from_residual.ensures.1
