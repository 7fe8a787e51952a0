-- What nodes have at the vertices is what stands in a list of all vertices.
use Rattle.std.proofs.Common.{◌≡◌, ◌∙◌, ◌+◌, ◌≤◌, ◌<◌, ℕ, zero, suc, List, ◌∷◌, map, refl, ap₂, arith}
use Rattle.std.specs.List.{range_with_len}
use Rattle.std.proofs.lemmas.Simd.{map-map}
use Rattle.interference.specs.Net.{Net, IsVertex, count_of, vertices}

same-from : (f g : ℕ → ℕ) (a n : ℕ) → ((v : ℕ) → a ≤ v → v < a + n → f v ≡ g v)
    → map f (range_with_len a n) ≡ map g (range_with_len a n)
same-from f g a zero same = refl
same-from f g a (suc n) same =
    ap₂ (λ (x : ℕ) (xs : List ℕ). x ∷ xs) (same a (omega arith) (omega arith))
    (same-from f g (a + 1) n (λ v low high. same v (omega arith) (omega arith)))

-- what is read off the nodes of all vertices
pub at-vertices : {S : Type 0} (net : Net) (read : S → ℕ) (node : ℕ → S) (f : ℕ → ℕ)
    → ((v : ℕ) → IsVertex net v → read (node v) ≡ f v) → map read (map node (vertices net)) ≡ map f (vertices net)
at-vertices net read node f same =
    map-map read node (vertices net)
    ∙ same-from (λ v. read (node v)) f 1 (count_of net) (λ v low high. same v (low, omega arith))
