use Rattle.std.proofs.Common.{◌≡◌, ◌+◌, length, sym, ap, ◌∙◌, arith, vec_len}
use Rattle.std.specs.List.{range_with_len}
use Rattle.std.proofs.lemmas.List.{length-map}
use Rattle.deque_rule.specs.Ledgers.{weigh}
use Rattle.checks.proofs.pool_checks.left_by_one.Goals as goal

-- 1 and 0 are the numbers below 2
pub run_tasks-requires-clause-numbers : goal.run_tasks-requires-clause-numbers
run_tasks-requires-clause-numbers g c κs within h =
    let tasks = c.in_ok-tasks.tasks in
    let are = c.in_ok-tasks.ensures.numbers in
    let two : vec_len tasks ≡ 2 = omega (arith, tasks.ok.0, length-map tasks.items (λ b. b.value.number), ap length are) in
    let turned : h 1 + (h 0 + 0) ≡ h 0 + (h 1 + 0) = omega arith in
    ap (weigh h) are ∙ turned ∙ ap (λ n. weigh h (range_with_len 0 n)) (sym two)
