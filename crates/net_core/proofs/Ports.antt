-- The neighbours of a vertex rise by port, and where a search among them ends.
use Rattle.std.proofs.Common.{◌≡◌, ◌<◌, ◌≤◌, inl, inr, ℕ, length, get_or, ap, arith, subst, sym, ◌∙◌, List, Result, Ok, Err, MatchResult, nat_cmp}
use Rattle.std.proofs.lemmas.Bool.{cases_order, cases_lt}
use Rattle.std.proofs.lemmas.List.Sorted.{searched}
use Rattle.std.specs.List.Sorted.{IsBinarySearchResult}
use Rattle.interference.proofs.Neighbours.{port_to-is}
use Rattle.interference.specs.Net.{Net, IsNetwork, IsVertex, neighbours, degree_of, neighbour_of, port_to}
use Rattle.interference.proofs.Members.{place_of-is}

pub rises : (net : Net) → IsNetwork net → (v : ℕ) → IsVertex net v → (i j : ℕ) → i ≤ j → j < length (neighbours net v) →
    get_or (neighbours net v) i 0 ≤ get_or (neighbours net v) j 0
rises net ok v vertex i j l m =
    elim (cases_order i j) [
      | inl same ↦ let e : get_or (neighbours net v) i 0 ≡ get_or (neighbours net v) j 0 = ap (λ k. get_or (neighbours net v) k 0) same in omega arith
      | inr side ↦ elim side [
        | inl below ↦ let h : neighbour_of net v i < neighbour_of net v j = ok.ascending v i j vertex below m in omega (arith, h)
        | inr above ↦ absurd (omega arith)
      ]
    ]

-- what leads nowhere is behind the last port
pub no-port : (net : Net) (v w place : ℕ)
    → ((k : ℕ) → k < place → get_or (neighbours net v) k 0 < w)
    → ((k : ℕ) → place ≤ k → k < length (neighbours net v) → w < get_or (neighbours net v) k 0) → degree_of net v ≤ port_to net v w
no-port net v w place low high =
    elim (cases_lt (port_to net v w) (degree_of net v)) [
      | inl less ↦
          let here : get_or (neighbours net v) (port_to net v w) 0 ≡ w = place_of-is w (neighbours net v) 0 less in
          elim (cases_lt (port_to net v w) place) [
            | inl before ↦ absurd (omega (arith, here, low (port_to net v w) before))
            | inr behind ↦ absurd (omega (arith, here, high (port_to net v w) (omega arith) less))
          ]
      | inr more ↦ omega arith
    ]

-- what a search for w among the neighbours of v comes to
pub searched-port : (net : Net) → IsNetwork net → (v w : ℕ) → IsVertex net v → (xs : List ℕ) → xs ≡ neighbours net v → (r : Result ℕ ℕ) →
    IsBinarySearchResult (λ y. nat_cmp y w) xs r →
    MatchResult r (λ i. (i ≡ port_to net v w) × (i < degree_of net v)) (λ i. degree_of net v ≤ port_to net v w)
searched-port net ok v w vertex xs same r is =
    by-result r (searched (neighbours net v) w r (subst (λ l. IsBinarySearchResult (λ y. nat_cmp y w) l r) same is) (rises net ok v vertex))
  where
    by-result : (r : Result ℕ ℕ) → MatchResult r (λ i. (i < length (neighbours net v)) × (get_or (neighbours net v) i 0 ≡ w))
        (λ i. (i ≤ length (neighbours net v)) × ((k : ℕ) → k < i → get_or (neighbours net v) k 0 < w)
        × ((k : ℕ) → i ≤ k → k < length (neighbours net v) → w < get_or (neighbours net v) k 0))
        → MatchResult r (λ i. (i ≡ port_to net v w) × (i < degree_of net v)) (λ i. degree_of net v ≤ port_to net v w)
    by-result (Ok i) (below, at) = (sym (port_to-is net ok v i vertex below) ∙ ap (λ x. port_to net v x) at, below)
    by-result (Err i) (within, low, high) = no-port net v w i low high
