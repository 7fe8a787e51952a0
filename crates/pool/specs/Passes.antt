-- The deques at which a worker has passes.
use Rattle.std.specs.Prelude.{List, map}
use Rattle.std.specs.declared.alloc.Global.{Global}
use Rattle.atomic_blocks.specs.Lent.{RowsId}
use Rattle.deque_rule.specs.Deques.{deque_of}
use Rattle.deque_rule.specs.declared.steal_pass.StealPass.{StealPass}
use Rattle.deque_rule.specs.declared.task.Task as task

-- the deque of each pass
abbrev pub deques_of : {T : Type 0} {t : task.Ghosts T} → List (StealPass T t) → List (RowsId × Global)
deques_of passes = map (λ steal_pass. deque_of steal_pass.pass) passes
