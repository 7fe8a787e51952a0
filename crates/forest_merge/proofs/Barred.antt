-- A few chosen and barred colours leave one free, and the least free one is neither chosen nor barred.
use Rattle.std.proofs.Common.{◌≡◌, ℕ, zero, suc, ◌+◌, ◌≤◌, ◌==◌, Bool, true, false, List, ◌∷◌, ◌++◌, length, refl, ap, sym, ◌∙◌, arith, length-append}
use Rattle.std.specs.Prelude.{not, ◌||◌, if◌then◌else◌, filter}
use Rattle.std.specs.List.{range_with_len}
use Rattle.std.proofs.lemmas.Bool.{not-true, or_from, or_parts}
use Rattle.std.proofs.lemmas.Bool.Decides.{nat_tests}
use Rattle.std.proofs.lemmas.List.Folds.{list_any-append}
use Rattle.colour_base.proofs.LeastLemmas.{least-at_most, least-holds}
use Rattle.forest_merge.specs.Free.{HasFree, colours_to, is_among, least_free_colour}
use Rattle.forest_merge.proofs.Taken.{HasFree-few, is_among-without, length-without, without}
use Rattle.forest_merge.proofs.Words.{kept_places}

-- the least free colour, where a colour is free
module _ (limit : ℕ) (is_taken : ℕ → Bool) (some : HasFree limit is_taken) where
  pub least_free_colour-at_most : least_free_colour limit is_taken ≤ limit
  least_free_colour-at_most = omega (arith, some.1, least-at_most (λ c. not (is_taken c)) (suc limit) some.0 (ap not some.2))

  pub least_free_colour-untaken : is_taken (least_free_colour limit is_taken) ≡ false
  least_free_colour-untaken =
      not-true (is_taken (least_free_colour limit is_taken)) (least-holds (λ c. not (is_taken c)) (suc limit) (omega (arith, least_free_colour-at_most)))

-- a test and the list of the colours that pass it
pub is_among-colours_to : (limit : ℕ) (test : ℕ → Bool) (c : ℕ) → c ≤ limit → is_among (colours_to limit test) c ≡ test c
is_among-colours_to limit test c most = kept_places test 0 (suc limit) c ∙ grind (arith, nat_tests)

pub HasFree-beside : (limit : ℕ) (colours : List ℕ) (barred : ℕ → Bool) → length colours + length (colours_to limit barred) ≤ limit →
    HasFree limit (λ c. is_among colours c || barred c)
HasFree-beside limit colours barred few =
    let bars : List ℕ = colours_to limit barred in
    let some : HasFree limit (is_among (colours ++ bars)) = HasFree-few limit (colours ++ bars) (omega (arith, length-append colours bars)) in
    let apart : (is_among colours some.0 || is_among bars some.0) ≡ false = sym (list_any-append (λ x. x == some.0) colours bars) ∙ some.2 in
    let both : (is_among colours some.0 ≡ false) × (is_among bars some.0 ≡ false) = or_parts (is_among colours some.0) (is_among bars some.0) apart in
    (some.0, some.1, or_from (is_among colours some.0) (barred some.0) both.0 (sym (is_among-colours_to limit barred some.0 some.1) ∙ both.1))

-- Numbers that pass a test and are all in a list are at most as many as the list: take the first out of it.
by_first : (b : Bool) (test : ℕ → Bool) (n a : ℕ) (xs : List ℕ) → b ≡ test a → ((c : ℕ) → a ≤ c → test c ≡ true → is_among xs c ≡ true) →
    ((ys : List ℕ) → ((c : ℕ) → a + 1 ≤ c → test c ≡ true → is_among ys c ≡ true) → length (filter test (range_with_len (a + 1) n)) ≤ length ys) →
    length (if b then a ∷ filter test (range_with_len (a + 1) n) else filter test (range_with_len (a + 1) n)) ≤ length xs
by_first true test n a xs e inside more =
    let rest : length (filter test (range_with_len (a + 1) n)) ≤ length (without a xs) =
    more (without a xs) (λ c low holds. is_among-without a c xs (λ same. omega arith) (inside c (omega arith) holds)) in
    omega (arith, rest, length-without a xs (inside a (omega arith) (sym e)))
by_first false test n a xs e inside more = more xs (λ c low holds. inside c (omega arith) holds)

length-kept : (test : ℕ → Bool) (n a : ℕ) (xs : List ℕ) → ((c : ℕ) → a ≤ c → test c ≡ true → is_among xs c ≡ true) →
    length (filter test (range_with_len a n)) ≤ length xs
length-kept test zero a xs inside = omega arith
length-kept test (suc n) a xs inside = by_first (test a) test n a xs refl inside (length-kept test n (a + 1))

-- the colours to a limit that are among these are at most as many
pub length-colours_to : (limit : ℕ) (colours : List ℕ) → length (colours_to limit (is_among colours)) ≤ length colours
length-colours_to limit colours = length-kept (is_among colours) (suc limit) 0 colours (λ c low among. among)
