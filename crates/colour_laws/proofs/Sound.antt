-- The colours of each forest are proper and small at each pulse of its work. The plan: after the first
-- four pulses they are the definition's bit steps (bits_kept); what a shift keeps, and a drop after it, is
-- stated once for any colours (shift_kept, drop_kept); the bounds are then those that the table names.
use Rattle.std.proofs.Common.{◌≡◌, ℕ, zero, suc, ◌+◌, ◌<◌, ◌≤◌, false, refl, ◌∙◌, arith}
use Rattle.std.specs.Prelude.{nat_lt}
use Rattle.std.proofs.lemmas.Bool.{le-ltb}
use Rattle.interference.specs.Net.{Net, id_of}
use Rattle.cole_vishkin.specs.BitStep.{bit_steps}
use Rattle.shift_down.specs.Steps.{shift, reduce}
use Rattle.colour_base.specs.Forest.{IsProper, IsWithin}
use Rattle.colour_laws.specs.Colours.{three}
use Rattle.cole_vishkin.specs.declared.step.TheConstants.{IDENTIFIER_DIGITS}
use Rattle.cole_vishkin.proofs.StepLemmas.{bit_steps-proper, one-small, two-small, three-small, four-small}
use Rattle.shift_down.proofs.StepLemmas.{shift-proper, shift-within, reduce-proper, reduce-below}
use Rattle.colour_rules.specs.Node.{reduction_of}
use Rattle.colour_rules.specs.Table.{is_above}
use Rattle.colour_laws.proofs.Expected.{stages, IsForest}
use Rattle.forests.specs.Forests.{parent}

pub stages_are_three : (net : Net) (f v : ℕ) → (stages net f 10).0 v ≡ three (parent net f) (id_of net) v
unfolding stages
stages_are_three net f v = refl

-- what a node's own colour and its parent's keep at the pulse after q
pub record Sound (net : Net) (f q : ℕ) : Type 0 where
  pub proper : IsProper (parent net f) (stages net f q).0
  pub below : (v : ℕ) → is_above (reduction_of (q + 3)) ((stages net f q).0 v) ≡ false

module _ (net : Net) (forest : IsForest net) (f : ℕ) where
  -- proper colours that are 0 to a bound
  record IsProperWithin (most : ℕ) (c : ℕ → ℕ) : Type 0 where
    pub proper : IsProper (parent net f) c
    pub within : IsWithin most c

  shift_kept : (most : ℕ) (c : ℕ → ℕ) → 2 ≤ most → IsProperWithin most c → IsProperWithin most (shift (parent net f) c)
  shift_kept most c low keeps = record {
    proper = shift-proper (parent net f) c keeps.proper;
    within = shift-within most (parent net f) c low keeps.within;
  }

  -- a shift and the drop of the greatest colour
  drop_kept : (most : ℕ) (c : ℕ → ℕ) → 2 ≤ most → IsProperWithin (suc most) c → IsProperWithin most (reduce (suc most) (parent net f) c)
  drop_kept most c low keeps = record {
    proper = reduce-proper (suc most) (parent net f) c keeps.proper;
    within = λ v. let less : reduce (suc most) (parent net f) c v < suc most = reduce-below (suc most) (parent net f) c (omega arith) keeps.within v in
        omega arith;
  }

  bits_kept : (k most : ℕ) → IsWithin most (bit_steps k (parent net f) (id_of net)) → IsProperWithin most (bit_steps k (parent net f) (id_of net))
  bits_kept k most within = record { proper = bit_steps-proper k (parent net f) (id_of net) (forest.apart f); within = within }

  kept1 : IsProperWithin 255 (stages net f 1).0
  unfolding stages
  kept1 = bits_kept 1 255 (λ v. omega (
    arith,
    one-small IDENTIFIER_DIGITS 8 (omega arith) (omega arith) (omega arith) (omega arith) (parent net f) (id_of net)
        (forest.apart f) forest.small v,
  ))

  kept2 : IsProperWithin 15 (stages net f 2).0
  unfolding stages
  kept2 = bits_kept 2 15 (λ v. omega (
    arith,
    two-small IDENTIFIER_DIGITS 8 (omega arith) (omega arith) (omega arith) (omega arith) (parent net f) (id_of net)
        (forest.apart f) forest.small v,
  ))

  kept3 : IsProperWithin 7 (stages net f 3).0
  unfolding stages
  kept3 = bits_kept 3 7 (λ v. omega (
    arith,
    three-small IDENTIFIER_DIGITS 8 (omega arith) (omega arith) (omega arith) (omega arith) (parent net f) (id_of net)
        (forest.apart f) forest.small v,
  ))

  kept4 : IsProperWithin 5 (stages net f 4).0
  unfolding stages
  kept4 = bits_kept 4 5 (λ v. omega (
    arith,
    four-small IDENTIFIER_DIGITS 8 (omega arith) (omega arith) (omega arith) (omega arith) (parent net f) (id_of net)
        (forest.apart f) forest.small v,
  ))

  kept5 : IsProperWithin 5 (stages net f 5).0
  unfolding stages
  kept5 = shift_kept 5 (stages net f 4).0 (omega arith) kept4

  kept6 : IsProperWithin 4 (stages net f 6).0
  unfolding stages
  kept6 = drop_kept 4 (stages net f 4).0 (omega arith) kept4

  kept7 : IsProperWithin 4 (stages net f 7).0
  unfolding stages
  kept7 = shift_kept 4 (stages net f 6).0 (omega arith) kept6

  kept8 : IsProperWithin 3 (stages net f 8).0
  unfolding stages
  kept8 = drop_kept 3 (stages net f 6).0 (omega arith) kept6

  kept9 : IsProperWithin 3 (stages net f 9).0
  unfolding stages
  kept9 = shift_kept 3 (stages net f 8).0 (omega arith) kept8

  -- by the bound that the table names at the pulse after q
  sound_within : (q most : ℕ) → ((c : ℕ) → is_above (reduction_of (q + 3)) c ≡ nat_lt most c) → IsProperWithin most (stages net f q).0 → Sound net f q
  sound_within q most bound keeps = record {
    proper = keeps.proper;
    below = λ v. bound ((stages net f q).0 v) ∙ le-ltb most ((stages net f q).0 v) (keeps.within v);
  }

  sound0 : Sound net f 0
  unfolding stages
  sound0 = record { proper = forest.apart f; below = λ v. refl }

  pub sound : (q : ℕ) → q < 10 → Sound net f q
  sound zero h = sound0
  sound (suc zero) h = sound_within 1 255 (λ c. refl) kept1
  sound (suc (suc zero)) h = sound_within 2 15 (λ c. refl) kept2
  sound (suc (suc (suc zero))) h = sound_within 3 7 (λ c. refl) kept3
  sound (suc (suc (suc (suc zero)))) h = sound_within 4 5 (λ c. refl) kept4
  sound (suc (suc (suc (suc (suc zero))))) h = sound_within 5 5 (λ c. refl) kept5
  sound (suc (suc (suc (suc (suc (suc zero)))))) h = sound_within 6 4 (λ c. refl) kept6
  sound (suc (suc (suc (suc (suc (suc (suc zero))))))) h = sound_within 7 4 (λ c. refl) kept7
  sound (suc (suc (suc (suc (suc (suc (suc (suc zero)))))))) h = sound_within 8 3 (λ c. refl) kept8
  sound (suc (suc (suc (suc (suc (suc (suc (suc (suc zero))))))))) h = sound_within 9 3 (λ c. refl) kept9
  sound (suc (suc (suc (suc (suc (suc (suc (suc (suc (suc q)))))))))) h = absurd (omega arith)
