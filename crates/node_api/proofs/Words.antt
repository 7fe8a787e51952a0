-- Marks in words of bits: what setting one bit does to the list of marks.
use Rattle.std.proofs.Common.{◌≡◌, ◌≢◌, ℕ, ◌*◌, ◌/◌, ◌%◌, ◌^◌, ◌<◌, ◌==◌, Bool, true, false, List, length, get_or, set, replicate}
use Rattle.std.proofs.Common.{refl, ap, sym, ◌∙◌, arith, bit_or, inl, inr}
use Rattle.std.specs.Prelude.{◌||◌}
use Rattle.std.proofs.lemmas.Bool.{cases_eq}
use Rattle.std.proofs.lemmas.Bool.Decides.{nat_tests}
use Rattle.std.proofs.lemmas.List.{same_lists, get_or-replicate, get_or-set_other, get_or-set_same, length-replicate, length-set}
use Rattle.std.proofs.lemmas.List.FromFn.{get_or-map-range_with_len, length-map-range_with_len}
use Rattle.colour_base.specs.Words.{has_bit}
use Rattle.colour_base.proofs.Words.{has_bit-set, no_bit}
use Rattle.node_api.specs.Marks.{marks_in}

pub length-marks_in : (n : ℕ) (words : List ℕ) → length (marks_in n words) ≡ n
unfolding marks_in
length-marks_in n words = length-map-range_with_len (has_bit words) 0 n

pub marks_in-at : (n : ℕ) (words : List ℕ) (k : ℕ) (d : Bool) → k < n → get_or (marks_in n words) k d ≡ has_bit words k
unfolding marks_in
marks_in-at n words k d below = get_or-map-range_with_len (has_bit words) 0 n k k d below (omega arith)

-- words without a one mark nothing
pub marks_in-zeros : (n count : ℕ) → marks_in n (replicate count 0) ≡ replicate n false
marks_in-zeros n count =
    same_lists _ _ (length-marks_in n (replicate count 0) ∙ sym (length-replicate n false))
    (λ k d h. let below : k < n = omega (arith, length-marks_in n (replicate count 0)) in
    marks_in-at n (replicate count 0) k d below ∙ (no_bit count k ∙ sym (get_or-replicate n k false d below)))

or_here : (c k : ℕ) (b : Bool) → c ≡ k → ((c == k) || b) ≡ true
or_here c k b e = grind (arith, nat_tests)

or_there : (c k : ℕ) (b : Bool) → c ≢ k → ((c == k) || b) ≡ b
or_there c k b e = grind (arith, nat_tests)

-- marks of words that differ at one place alone
marks_in-changed : (n : ℕ) (words new : List ℕ) (k : ℕ) (x : Bool) → k < n → has_bit new k ≡ x → ((c : ℕ) → c ≢ k → has_bit new c ≡ has_bit words c) →
    marks_in n new ≡ set (marks_in n words) k x
marks_in-changed n words new k x below here there =
    same_lists _ _ (length-marks_in n new ∙ sym (length-set (marks_in n words) k x ∙ length-marks_in n words))
    (λ c d h. let inside : c < n = omega (arith, length-marks_in n new) in
    marks_in-at n new c d inside ∙ elim (cases_eq c k) [
      | inl met ↦ ap (has_bit new) met ∙ (here ∙ sym (ap (λ i. get_or (set (marks_in n words) k x) i d) met ∙
          get_or-set_same (marks_in n words) k x d (omega (arith, length-marks_in n words))))
      | inr apart ↦ there c apart ∙ sym (get_or-set_other (marks_in n words) k c x d apart ∙ marks_in-at n words c d inside)
    ])

pub marks_in-set : (n : ℕ) (words : List ℕ) (k : ℕ) → k < n → k / 64 < length words →
    marks_in n (set words (k / 64) (bit_or (get_or words (k / 64) 0) (1 * 2 ^ (k % 64) % 2 ^ 64))) ≡ set (marks_in n words) k true
marks_in-set n words k below inside =
    marks_in-changed n words _ k true below (has_bit-set words k k inside ∙ or_here k k (has_bit words k) refl)
    (λ c apart. has_bit-set words k c inside ∙ or_there c k (has_bit words c) apart)

-- the same, of a word that was read
pub marks_in-read_set : (n : ℕ) (words : List ℕ) (k x : ℕ) → x ≡ get_or words (k / 64) 0 → k < n → k / 64 < length words →
    marks_in n (set words (k / 64) (bit_or x (1 * 2 ^ (k % 64) % 2 ^ 64))) ≡ set (marks_in n words) k true
marks_in-read_set n words k x is below inside =
    ap (λ w. marks_in n (set words (k / 64) (bit_or w (1 * 2 ^ (k % 64) % 2 ^ 64)))) is ∙ marks_in-set n words k below inside
