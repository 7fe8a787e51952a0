use Rattle.std.proofs.Common.{◌≡◌, ◌≢◌, ℕ, length, filter, nat_lt, sym, ◌∙◌, subst, arith}
use Rattle.std.specs.List.Sorted.{IsPermutation}
use Rattle.std.proofs.lemmas.List.{take_at, length-take-le}
use Rattle.std.proofs.lemmas.List.Kept.{AllPairs-filter}
use Rattle.std.proofs.lemmas.List.Sorted.{IsNonDecreasingBy-from_sort}
use Rattle.forests.specs.Order.{IsAscendingBy, HasDistinctKeys}
use Rattle.forests.proofs.Orders.{order-ascends}
use Rattle.forests.proofs.Sorts.{sorted-is_in_order}
use Rattle.forests.proofs.numbering.order_higher.Goals as goal

pub returns-clause-ordered : goal.returns-clause-ordered
returns-clause-ordered c =
    let above = filter (nat_lt c.args.own) c.args.ids.now in
    let sorted = c.sort_unstable.new.self in
    let n = c.gather_higher-count.result in
    let apart : HasDistinctKeys (λ (i : ℕ). i) above = AllPairs-filter (λ x y. x ≢ y) (nat_lt c.args.own) c.args.ids.now c.requires.distinct in
    let moved : IsPermutation above sorted = subst (λ xs. IsPermutation xs sorted) c.gather_higher-count.ensures.gathered c.sort_unstable.ensures.permutation in
    let long : length sorted ≡ n = c.sort_unstable.ensures.len ∙ length-take-le n c.gather_higher-count.new.higher (omega arith) in
    take_at sorted _ n long ∙ sorted-is_in_order (λ i. i) above sorted apart moved (IsNonDecreasingBy-from_sort (λ i. i) sorted c.sort_unstable.ensures.sorted)

pub returns-clause-ascending : goal.returns-clause-ascending
returns-clause-ascending c =
    let above = filter (nat_lt c.args.own) c.args.ids.now in
    let apart : HasDistinctKeys (λ (i : ℕ). i) above = AllPairs-filter (λ x y. x ≢ y) (nat_lt c.args.own) c.args.ids.now c.requires.distinct in
    subst (λ xs. IsAscendingBy (λ i. i) xs) (sym (returns-clause-ordered c)) (order-ascends (λ i. i) above apart)
