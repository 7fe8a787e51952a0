use Rattle.std.proofs.Common.{rules}
use Rattle.pool.proofs.run.in_threads.Goals as goal

-- what the closure asks, and the bounds of what it calls
pub scoped-requires : goal.scoped-requires
scoped-requires g c = record {
  at = λ a. (
    (c.requires.callable, c.requires.keeps, c.requires.few, c.requires.workers, c.requires.deques),
    search rules,
  );
}
