use Rattle.std.proofs.Common.{◌∙◌, ap, sym}
use Rattle.plan_runs.specs.Workers.{whole_after}
use Rattle.plan_runs.proofs.Ran.{kept, stopped}
use Rattle.plan_runs.proofs.workers.unless_stopped.Goals as goal

pub returns-in-Err : goal.returns-in-Err
returns-in-Err g c = record { whole = ap whole_after (sym c.in-Err.is) }

pub returns-then-is_whole : goal.returns-then-is_whole
returns-then-is_whole g c = record {
  whole = sym (ap whole_after c.in-Ok.is ∙ kept c.in-Ok.outcome (sym c.is_whole.ensures.whole ∙ c.if-is_whole.true));
}

pub returns-else-is_whole : goal.returns-else-is_whole
returns-else-is_whole g c = record {
  whole = sym (ap whole_after c.in-Ok.is ∙ stopped c.in-Ok.outcome (sym c.is_whole.ensures.whole ∙ c.if-is_whole.false));
}
