-- The order of pairs, and that it tells different pairs apart.
use Rattle.std.proofs.Common.{◌≡◌, ℕ, true, refl}
use Rattle.std.specs.Cmp.{IsTotalOrder, IsEquivalence}
use Rattle.std.specs.Ordering.{nat_cmp, is_eq}
use Rattle.std.specs.declared.cmp.Ordering.{Ordering}
use Rattle.std.specs.declared.cmp.Ordering.TheVariants.{Less, Equal, Greater}
use Rattle.std.proofs.lemmas.Cmp.{then_total, on_total, nat_cmp_total, eq_by_cmp_equiv}
use Rattle.std.proofs.lemmas.Map.Lookups.{exact_pairs, exact_unsigned}
use Rattle.graph_limits.specs.Pairs.{pair_cmp, same_pair}

pub pair_total : IsTotalOrder pair_cmp
pair_total = then_total (on_total (λ p. p.0) nat_cmp_total) (on_total (λ p. p.1) nat_cmp_total)

pub same_pair-laws : IsEquivalence same_pair
same_pair-laws = eq_by_cmp_equiv pair_total

equal-from : (o : Ordering) → is_eq o ≡ true → o ≡ Equal
equal-from Less e = absurd cc
equal-from Equal e = refl
equal-from Greater e = absurd cc

pub same_pair-exact : (p q : ℕ × ℕ) → same_pair p q ≡ true → p ≡ q
same_pair-exact p q e = exact_pairs nat_cmp nat_cmp exact_unsigned exact_unsigned p q (equal-from (pair_cmp p q) e)
