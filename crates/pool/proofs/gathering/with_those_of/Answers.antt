use Rattle.pool.proofs.Returned.{no_task, one_task}
use Rattle.pool.proofs.gathering.with_those_of.Goals as goal

pub returns : goal.returns
returns g c = record {
  tasks = one_task (λ b. g.T.Task.number_of b.value) c.args.tasks.items c.args.finished.items c.args.task c.in-Some.task _ _
      c.in-Some.is c.in_ok-append.ensures.items c.in_ok-push.ensures.items;
}

pub returns-in_default : goal.returns-in_default
returns-in_default g c = record {
  tasks = no_task (λ b. g.T.Task.number_of b.value) c.args.tasks.items c.args.finished.items c.args.task _
      c.in_default.is c.in_ok-append.ensures.items;
}
