use Rattle.std.proofs.Common.{◌≡◌, ◌<◌, ◌∙◌, ap, length, map, sym, arith}
use Rattle.crossbeam_deque.specs.Handles.{stealer_deque}
use Rattle.pool.specs.Passes.{deques_of}
use Rattle.pool.proofs.Holds.{holds_at}
use Rattle.checks.proofs.deque_checks.second_finds.Goals as goal

pub find_all-requires-clause-deques : goal.find_all-requires-clause-deques
find_all-requires-clause-deques c =
    let lt : 1 < length c.args.states.items = omega (arith, c.args.states.ok.0) in
    holds_at (λ d. deques_of d.passes.items ≡ map stealer_deque c.args.stealers.items) c.args.states.items 1 c.index_mut.result.now lt
    c.index_mut.ensures.value c.requires.deques ∙ ap (map stealer_deque) (sym c.as_slice.ensures.value)
