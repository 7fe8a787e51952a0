-- Numbers with a space behind each, and how they make a row.
use Rattle.std.proofs.Common.{◌≡◌, ◌∙◌, ℕ, List, [], ◌∷◌, ◌++◌, refl, ap, sym, append_assoc}
use Rattle.std.specs.Prelude.{map}
use Rattle.std.specs.List.{join_with_byte}
use Rattle.std.specs.Fmt.{decimal}
use Rattle.number_rows.specs.Row.{spaced}

-- a number and a space before some numbers with spaces
regrouped : (x : ℕ) (numbers : List ℕ) (end : List ℕ)
    → spaced (x ∷ numbers) ++ end ≡ decimal x ++ (32 ∷ (spaced numbers ++ end))
regrouped x numbers end = append_assoc (decimal x ++ 32 ∷ []) (spaced numbers) end
    ∙ append_assoc (decimal x) (32 ∷ []) (spaced numbers ++ end)

pub joined_last : (numbers : List ℕ) (n : ℕ)
    → join_with_byte 32 (map decimal (numbers ++ n ∷ [])) ≡ spaced numbers ++ decimal n
joined_last [] n = refl
joined_last (x ∷ []) n = sym (regrouped x [] (decimal n))
joined_last (x ∷ y ∷ rest) n = ap (λ l. decimal x ++ (32 ∷ l)) (joined_last (y ∷ rest) n)
    ∙ sym (regrouped x (y ∷ rest) (decimal n))
