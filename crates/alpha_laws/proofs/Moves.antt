-- Nodes that simulate the synchronous run can move, or are done. Plan: if a link holds a wire, it can be taken, since every node can
-- take. Else if an out-list has a wire, it can be put, since its link is empty. Else all was put and taken: a node can pulse, or all
-- are drained.
use Rattle.std.proofs.Common.{◌≡◌, ℕ, ◌<◌, ◌⊎◌, inl, inr, List, [], ◌++◌, length, sym, ap, ◌∙◌, append-nil, arith, ⊎_elim}
use Rattle.interference.specs.Net.{Net, IsNetwork, IsVertex, degree_of, neighbour_of, back_port_of}
use Rattle.node_api.specs.Program.{Program}
use Rattle.wires.specs.declared.wire.Wire.{Wire}
use Rattle.alpha_core.specs.View.{Node, port_at}
use Rattle.alpha_laws.specs.Simulates.{Simulates, taken_over}
use Rattle.alpha_laws.specs.Progress.{CanMove, IsWhole, Splits}
use Rattle.alpha_laws.proofs.Across.{over}
use Rattle.alpha_laws.proofs.Quiet.{quiet}
use Rattle.alpha_laws.proofs.Search.{find}

module _ {S M E : Type 0} {program : Program S M E} {net : Net} (ok : IsNetwork net) {nodes : ℕ → Node S M} {sent taken held : ℕ → ℕ → List (Wire M)}
    (sim : Simulates program net nodes sent taken) (splits : Splits net sent taken held) (capacity : ℕ) (some : 0 < capacity) where
  put_or_pulse : ((v i : ℕ) → IsVertex net v → i < degree_of net v → held v i ≡ [])
      → ((v : ℕ) × IsVertex net v × CanMove capacity program net nodes held v) ⊎ IsWhole program net nodes held
  put_or_pulse empty = ⊎_elim
      (λ (v, i, vertex, lt, has). inl (
        v,
        vertex,
        inr (inl (
          i,
          lt,
          omega (arith, ap (λ l. length l) has.is),
          omega (arith, some, ap (λ l. length l) (empty v i vertex lt)),
        )),
      ))
      (λ put.
      let met : (v i : ℕ) → IsVertex net v → i < degree_of net v → taken_over net taken v i ≡ sent v i =
      λ v i vertex lt. sym (append-nil _) ∙ ap (λ l. taken_over net taken v i ++ l) (sym (empty v i vertex lt)) ∙ splits v i vertex lt in
      ⊎_elim (λ (v, vertex, can). inl (v, vertex, inr (inr can))) (λ all. inr record { drained = all; empty = empty }) (quiet ok sim put met))
      (find net (λ v i. (port_at (nodes v).view i).out))

  pub moves : ((v : ℕ) × IsVertex net v × CanMove capacity program net nodes held v) ⊎ IsWhole program net nodes held
  moves = ⊎_elim
      (λ (v, i, vertex, lt, has). inl (v, vertex, inl (sim.always_can_take v vertex, (i, lt, omega (arith, ap (λ l. length l) has.is)))))
      (λ none. put_or_pulse (λ v i vertex lt.
      sym (over net ok held v i vertex lt)
      ∙ none (neighbour_of net v i) (back_port_of net v i) (ok.vertices v i vertex lt) (ok.symmetric v i vertex lt)))
      (find net (λ v i. held (neighbour_of net v i) (back_port_of net v i)))
