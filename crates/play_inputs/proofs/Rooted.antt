-- The network with a root.
use Rattle.std.proofs.Common.{◌≡◌, ◌∙◌, ◌<◌, ◌-◌, ℕ, List, arith, false, inl, inr, length, refl, true}
use Rattle.std.specs.Prelude.{nat_eq, slice_index}
use Rattle.std.proofs.lemmas.Bool.{eq-eqb}
use Rattle.std.proofs.lemmas.Bool.Decides.{eqb_tells}
use Rattle.std.proofs.lemmas.List.{get_or-map, length-map}
use Rattle.interference.specs.Net.{Net, IsVertex, id_of}
use Rattle.interference.specs.Making.{network_of}
use Rattle.play_inputs.specs.Roots.{exchanged_id, rooted, rooted_ids}
use Rattle.play_inputs.specs.declared.setting.Root.{Root}

-- that of the identifiers with the root
pub network-rooted : (root : Root) (ids : List ℕ) (edges bars : List (ℕ × ℕ))
    → network_of (rooted_ids root ids) edges bars ≡ rooted root (network_of ids edges bars)
unfolding network_of
network-rooted root ids edges bars = rw (length-map ids (exchanged_id root.id (slice_index ids (root.vertex - 1)))) refl

-- its root
pub rooted-vertex : (root : Root) (net : Net) (v : ℕ) → IsVertex net v → IsVertex (rooted root net) v
rooted-vertex root net v is = (is.0, omega (arith, is.1, length-map net.ids (exchanged_id root.id (id_of net root.vertex))))

gets-id : (id own : ℕ) → exchanged_id id own own ≡ id
gets-id id own = elim (eqb_tells own id) [
  | inl same ↦ let test : nat_eq own id ≡ true = same.0 in rw test same.1
  | inr other ↦
      let test : nat_eq own id ≡ false = other.0 in
      let itself : nat_eq own own ≡ true = eq-eqb own own refl in rw (test, itself) refl
]

pub root-has-id : (root : Root) (net : Net) → IsVertex net root.vertex → id_of (rooted root net) root.vertex ≡ root.id
root-has-id root net vertex =
    let own : ℕ = id_of net root.vertex in
    let low : root.vertex - 1 < length net.ids = omega (arith, vertex.0, vertex.1) in
    get_or-map (exchanged_id root.id own) net.ids (root.vertex - 1) 0 0 low ∙ gets-id root.id own
