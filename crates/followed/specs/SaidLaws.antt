-- Laws of `Said.antt`, which an `impl` cites.
use Rattle.std.specs.Prelude.{◌≡◌, ℕ, ◌<◌, List, length, All, Option, Some, None}
use Rattle.std.specs.Char.{IsAsciiAlphabetic}
use Rattle.std.proofs.Common.{ap, ◌∙◌}
use Rattle.followed.specs.declared.said.Said.{Said}
use Rattle.followed.specs.declared.said.Said.TheVariants.{First, Then}
use Rattle.followed.specs.Said.{of_either, is_apart, then_of, read_first}

module _ {A B : Type 0} (is_first : A → Type 0) (is_other : B → Type 0) (word : A → List ℕ) (other_word : B → List ℕ)
    (number : A → ℕ) (other_number : B → ℕ) (read : List ℕ → ℕ → Option A) (other_read : List ℕ → ℕ → Option B) where
  -- each reads what it wrote
  pub read_back_beside : ((x : A) → is_first x → read (word x) (number x) ≡ Some x)
      → ((y : B) → is_other y → other_read (other_word y) (other_number y) ≡ Some y)
      → (x : Said A B) → is_apart is_first is_other read other_word other_number x
      → read_first read other_read (of_either word other_word x) (of_either number other_number x) ≡ Some x
  read_back_beside first other (First x) h =
      ap (λ (r : Option A). then_of r (other_read (word x) (number x))) (first x h)
  read_back_beside first other (Then y) h =
      ap (λ (r : Option A). then_of r (other_read (other_word y) (other_number y))) h.1
      ∙ ap (λ (r : Option B). then_of None r) (other y h.0)

pub letters_beside : {A B : Type 0} (word : A → List ℕ) (other : B → List ℕ)
    → ((x : A) → (0 < length (word x)) × All IsAsciiAlphabetic (word x))
    → ((y : B) → (0 < length (other y)) × All IsAsciiAlphabetic (other y))
    → (x : Said A B) → (0 < length (of_either word other x)) × All IsAsciiAlphabetic (of_either word other x)
letters_beside word other first then (First x) = first x
letters_beside word other first then (Then y) = then y
