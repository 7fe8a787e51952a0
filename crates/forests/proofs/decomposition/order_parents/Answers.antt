use Rattle.std.proofs.Common.{ℕ, subst, rules}
use Rattle.std.specs.List.Sorted.{IsPermutation}
use Rattle.std.proofs.lemmas.List.Sorted.{IsNonDecreasingBy-from_sort_by_key}
use Rattle.forests.proofs.Highers.{sorted-is_up}
use Rattle.forests.proofs.decomposition.order_parents.Goals as goal

pub returns : goal.returns
returns c =
    let sorted = c.sort_unstable_by_key.new.self.items in
    let moved = subst (λ xs. IsPermutation xs sorted) c.in_ok-gather_parents.ensures c.sort_unstable_by_key.ensures.permutation in
    let rising = IsNonDecreasingBy-from_sort_by_key (λ (p : ℕ × ℕ). p.0) sorted c.sort_unstable_by_key.ensures.sorted (λ a r q k. search rules) in
    sorted-is_up c.args.net.now c.requires.network c.args.v c.requires.vertex sorted moved rising
