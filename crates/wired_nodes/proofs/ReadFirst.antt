-- Lists by port, and what entries say of a neighbour: a wire that an entry puts or takes first is the last of its port,
-- and what the other entries say comes behind it. The port is that of the entry's neighbour, and no other port leads to
-- that neighbour.
use Rattle.std.proofs.Common.{◌≡◌, ℕ, ◌<◌, ◌==◌, if◌then◌else◌, List, [], ◌∷◌, ◌++◌, refl, sym, ap, ◌∙◌, append_assoc}
use Rattle.std.proofs.Common.{⊎_elim}
use Rattle.std.proofs.lemmas.Bool.{cases_eq, eq-eqb, ne_eqb}
use Rattle.std.proofs.lemmas.List.{append-nil}
use Rattle.interference.specs.Net.{Net, IsNetwork, IsVertex, degree_of, neighbour_of, neighbours, port_to}
use Rattle.interference.proofs.Members.{place_of-is}
use Rattle.interference.proofs.Neighbours.{port_to-is}
use Rattle.wires.specs.declared.wire.Wire.{Wire}
use Rattle.alpha_laws.specs.Laws.{OneMore}

-- these lists by port, and then what is read for the neighbour there
abbrev pub and_then : {M : Type 0} → Net → ℕ → (ℕ → List (Wire M)) → (ℕ → List (Wire M)) → ℕ → List (Wire M)
and_then net v lists read i = lists i ++ read (neighbour_of net v i)

-- one wire more at the end of the list of a port
abbrev pub longer : {M : Type 0} → ℕ → Wire M → (ℕ → List (Wire M)) → ℕ → List (Wire M)
longer k x lists j = lists j ++ (if j == k then x ∷ [] else [])

pub one_longer : {M : Type 0} (k : ℕ) (x : Wire M) (lists : ℕ → List (Wire M)) → OneMore k x lists (longer k x lists)
one_longer k x lists = record {
  here = let e = eq-eqb k k refl in rw e refl;
  others = λ j ne. let e = ne_eqb j k ne in rw e (sym (append-nil (lists j)));
}

neighbour_is : (net : Net) (v w : ℕ) → port_to net v w < degree_of net v → neighbour_of net v (port_to net v w) ≡ w
neighbour_is net v w below = place_of-is w (neighbours net v) 0 below

-- a wire that is read first for a neighbour is the last of the port to it
pub read_first : {M : Type 0} (net : Net) → IsNetwork net → (v : ℕ) → IsVertex net v → (w : ℕ) (x : Wire M) (lists : ℕ → List (Wire M))
    (rest : List (Wire M)) → port_to net v w < degree_of net v → (i : ℕ) → i < degree_of net v
    → longer (port_to net v w) x lists i ++ rest ≡ lists i ++ (if w == neighbour_of net v i then x ∷ rest else rest)
read_first net ok v vertex w x lists rest below i lt = ⊎_elim
    (λ same.
    let e = eq-eqb i (port_to net v w) same in
    let e' = eq-eqb w (neighbour_of net v i) (sym (neighbour_is net v w below) ∙ ap (λ j. neighbour_of net v j) (sym same)) in
    rw e (rw e' (append_assoc (lists i) (x ∷ []) rest)))
    (λ ne.
    let e = ne_eqb i (port_to net v w) ne in
    let e' = ne_eqb w (neighbour_of net v i) (λ is. ne (sym (port_to-is net ok v i vertex lt) ∙ ap (λ u. port_to net v u) (sym is))) in
    rw e (rw e' (ap (λ l. l ++ rest) (append-nil (lists i)))))
    (cases_eq i (port_to net v w))
