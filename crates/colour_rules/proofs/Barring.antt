-- The colours that are barred at a node, as a set of those that are at most a limit.
use Rattle.std.proofs.Common.{◌≡◌, ℕ, suc, ◌+◌, ◌<◌, ◌≤◌, ◌==◌, Bool, true, false, List, [], ◌∷◌, length, get_or}
use Rattle.std.proofs.Common.{replicate, take, refl, ap, sym, ◌∙◌, arith, inl, inr}
use Rattle.std.specs.Prelude.{◌&&◌, ◌||◌, if◌then◌else◌, filter, nat_le, not}
use Rattle.std.specs.Ordering.{nat_cmp}
use Rattle.std.specs.FinSet.{FinSet, contains, contains-empty, contains-from_list_nat, empty, insert}
use Rattle.std.proofs.lemmas.Bool.{cases_eq, and_left}
use Rattle.std.proofs.lemmas.Bool.Decides.{nat_tests}
use Rattle.std.proofs.lemmas.List.Folds.{list_any_more}
use Rattle.colour_base.proofs.LeastKnown.{least-same}
use Rattle.node_api.specs.Program.{Own, Sizes, span}
use Rattle.forests.specs.declared.numbering.Role.{Role}
use Rattle.forests.specs.declared.numbering.Role.TheVariants.{Unknown}
use Rattle.forest_merge.specs.Free.{HasFree, is_among, least_free_colour}
use Rattle.forest_merge.proofs.Sets.{contains-insert_colour, same_colours}
use Rattle.forest_merge.proofs.Taken.{HasFree-few}
use Rattle.colour_rules.specs.Node.{Node, made, up_to}

-- what is among those that are at most the limit
one_low : (b : Bool) (limit x c : ℕ) (xs lows : List ℕ) → b ≡ nat_le x limit → is_among lows c ≡ (is_among xs c && nat_le c limit) →
    is_among (if b then x ∷ lows else lows) c ≡ (is_among (x ∷ xs) c && nat_le c limit)
one_low true limit x c xs lows e rest =
    elim (cases_eq x c) [
      | inl met ↦ let low : nat_le c limit ≡ true = ap (λ y. nat_le y limit) (sym met) ∙ sym e in grind (arith, nat_tests)
      | inr apart ↦ grind (arith, nat_tests)
    ]
one_low false limit x c xs lows e rest =
    elim (cases_eq x c) [
      | inl met ↦ let high : nat_le c limit ≡ false = ap (λ y. nat_le y limit) (sym met) ∙ sym e in grind (arith, nat_tests)
      | inr apart ↦ grind (arith, nat_tests)
    ]

among_low : (limit : ℕ) (xs : List ℕ) (c : ℕ) → is_among (filter (λ x. nat_le x limit) xs) c ≡ (is_among xs c && nat_le c limit)
among_low limit [] c = refl
among_low limit (x ∷ xs) c = one_low (nat_le x limit) limit x c xs (filter (λ y. nat_le y limit) xs) refl (among_low limit xs c)

pub contains-up_to : (limit : ℕ) (bars : List ℕ) (c : ℕ) → contains (up_to limit bars) c ≡ (is_among bars c && nat_le c limit)
contains-up_to limit bars c = contains-from_list_nat (filter (λ x. nat_le x limit) bars) c ∙ among_low limit bars c

-- below the limit these are the bars themselves
and_true : (a b : Bool) → b ≡ true → (a && b) ≡ a
and_true true b h = h
and_true false b h = refl

pub contains-up_to_low : (limit : ℕ) (bars : List ℕ) (c : ℕ) → c ≤ limit → contains (up_to limit bars) c ≡ is_among bars c
contains-up_to_low limit bars c low = contains-up_to limit bars c ∙ and_true (is_among bars c) (nat_le c limit) (grind (arith, nat_tests))

-- the set has those of the first i bars that are at most the limit
abbrev pub HasBars : ℕ → List ℕ → ℕ → FinSet nat_cmp → Type 0
HasBars limit bars i set = (c : ℕ) → contains set c ≡ (is_among (take i bars) c && nat_le c limit)

pub bars-none : (limit : ℕ) (bars : List ℕ) → HasBars limit bars 0 empty
bars-none limit bars c = contains-empty nat_cmp c

module _ (limit : ℕ) (bars : List ℕ) (i : ℕ) (set : FinSet nat_cmp) (inside : i < length bars) (has : HasBars limit bars i set) where
  more : (c : ℕ) → is_among (take (i + 1) bars) c ≡ (is_among (take i bars) c || get_or bars i 0 == c)
  more c = list_any_more (λ x. x == c) bars i 0 inside

  pub bars-add : get_or bars i 0 ≤ limit → HasBars limit bars (i + 1) (insert set (get_or bars i 0))
  bars-add low c =
      let bar : ℕ = get_or bars i 0 in
      let is : contains (insert set bar) c ≡ ((c == bar) || contains set c) = contains-insert_colour set bar c in
      let here : contains set c ≡ (is_among (take i bars) c && nat_le c limit) = has c in
      let there : is_among (take (i + 1) bars) c ≡ (is_among (take i bars) c || bar == c) = more c in
      rw (is, there, here) (added (is_among (take i bars) c) bar c low)
    where
      added : (a : Bool) (bar c : ℕ) → bar ≤ limit → ((c == bar) || (a && nat_le c limit)) ≡ ((a || bar == c) && nat_le c limit)
      added true bar c low =
          elim (cases_eq c bar) [ inl met ↦ grind (arith, nat_tests) | inr apart ↦ grind (arith, nat_tests) ]
      added false bar c low =
          elim (cases_eq c bar) [ inl met ↦ grind (arith, nat_tests) | inr apart ↦ grind (arith, nat_tests) ]

  pub bars-skip : limit < get_or bars i 0 → HasBars limit bars (i + 1) set
  bars-skip high c = has c ∙ sym (rw (more c) (skipped (is_among (take i bars) c) (get_or bars i 0) c high))
    where
      skipped : (a : Bool) (bar c : ℕ) → limit < bar → ((a || bar == c) && nat_le c limit) ≡ (a && nat_le c limit)
      skipped true bar c high = grind (arith, nat_tests)
      skipped false bar c high =
          elim (cases_eq bar c) [ inl met ↦ grind (arith, nat_tests) | inr apart ↦ grind (arith, nat_tests) ]

pub bars-all : (limit : ℕ) (bars : List ℕ) (n : ℕ) (set : FinSet nat_cmp) → take n bars ≡ bars → HasBars limit bars n set → set ≡ up_to limit bars
bars-all limit bars n set whole has =
    same_colours set (up_to limit bars)
    (λ c. has c ∙ (ap (λ xs. is_among xs c && nat_le c limit) whole ∙ sym (contains-up_to limit bars c)))

-- bars that are at most as many as the limit leave a colour free
pub HasFree-bars : (limit : ℕ) (bars : List ℕ) → length bars ≤ limit → HasFree limit (contains (up_to limit bars))
HasFree-bars limit bars few =
    let some : HasFree limit (is_among bars) = HasFree-few limit bars few in
    (some.0, some.1, contains-up_to limit bars some.0 ∙ and_left (is_among bars some.0) (nat_le some.0 limit) some.2)

-- a node before it has heard anything: nothing is chosen, and these are barred
module _ (limit : ℕ) (bars : List ℕ) (chosen barred : FinSet nat_cmp) (none : chosen ≡ empty) (are : barred ≡ up_to limit bars) where
  only_barred : (c : ℕ) → (contains chosen c || contains barred c) ≡ contains (up_to limit bars) c
  only_barred c =
      ap (λ s. contains s c || contains barred c) none
      ∙ (ap (λ b. b || contains barred c) (contains-empty nat_cmp c) ∙ ap (λ s. contains s c) are)

  pub HasFree-made : length bars ≤ limit → HasFree limit (λ c. contains chosen c || contains barred c)
  HasFree-made few = let some : HasFree limit (contains (up_to limit bars)) = HasFree-bars limit bars few in (some.0, some.1, only_barred some.0 ∙ some.2)

  pub HasFree-barred : length bars ≤ limit → HasFree limit (contains barred)
  HasFree-barred few =
      let some : HasFree limit (contains (up_to limit bars)) = HasFree-bars limit bars few in
      (some.0, some.1, ap (λ s. contains s some.0) are ∙ some.2)

  pub first-colour : least_free_colour limit (λ c. contains chosen c || contains barred c) ≡ least_free_colour limit (contains (up_to limit bars))
  first-colour =
      least-same (λ c. not (contains chosen c || contains barred c)) (λ c. not (contains (up_to limit bars) c)) (suc limit)
      (λ c below. ap not (only_barred c))

-- a node of which all parts are as at the beginning
pub made-is : (own : Own) (id : ℕ) (sizes : Sizes) (roles : List Role) (colours before : List ℕ) (merged : ℕ) (chosen barred : FinSet nat_cmp) →
    id ≡ own.id → sizes ≡ own.sizes → roles ≡ replicate own.degree Unknown → colours ≡ replicate own.sizes.forests 0 →
    before ≡ replicate own.sizes.forests 0 →
    merged ≡ least_free_colour (span own.sizes) (contains (up_to (span own.sizes) own.bars)) → chosen ≡ empty →
    barred ≡ up_to (span own.sizes) own.bars →
    ◌≡◌ {A = Node}
    (record {
      id = id;
      sizes = sizes;
      roles = roles;
      colours = colours;
      before = before;
      colour_before = 0;
      merged = merged;
      chosen = chosen;
      barred = barred;
    })
    (made own)
made-is own id sizes roles colours before merged chosen barred e0 e1 e2 e3 e4 e5 e6 e7 = rw (e0, e1, e2, e3, e4, e5, e6, e7) refl
