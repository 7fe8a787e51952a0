-- Nodes within d links are at most d pulses apart: link by link.
use Rattle.std.proofs.Common.{◌≡◌, ℕ, zero, suc, ◌+◌, ◌≤◌, List, ap, arith, inl, inr}
use Rattle.interference.specs.Net.{IsNetwork, IsVertex, Net, back_port_of, neighbour_of}
use Rattle.interference.proofs.Neighbours.{at-back_port}
use Rattle.node_api.specs.Program.{Program}
use Rattle.wires.specs.declared.wire.Wire.{Wire}
use Rattle.alpha_core.specs.View.{Node}
use Rattle.alpha_laws.specs.Simulates.{Simulates}
use Rattle.bound_laws.specs.Apart.{AreApart}

module _ {S M E : Type 0} (program : Program S M E) (net : Net) (ok : IsNetwork net) (nodes : ℕ → Node S M) (sent taken : ℕ → ℕ → List (Wire M))
    (is : Simulates program net nodes sent taken) where
  abbrev at : ℕ → ℕ
  at v = (nodes v).view.pulse

  pub apart : AreApart net nodes
  apart zero v w is_vertex same = let e : at w ≡ at v = ap at same in (omega (arith, e), omega (arith, e))
  apart (suc d) v w is_vertex reached = elim reached [
    | inl near ↦ let h = apart d v w is_vertex near in (omega (arith, h.0), omega (arith, h.1))
    | inr way ↦
        let u : ℕ = neighbour_of net v way.0 in
        let inside : IsVertex net u = ok.vertices v way.0 is_vertex way.1 in
        let h = apart d u w inside way.2 in
        let there : at v ≤ at u + 1 = is.one_pulse_apart v way.0 is_vertex way.1 in
        let back : at u ≤ at (neighbour_of net u (back_port_of net v way.0)) + 1 =
        is.one_pulse_apart u (back_port_of net v way.0) inside (ok.symmetric v way.0 is_vertex way.1) in
        let same : at (neighbour_of net u (back_port_of net v way.0)) ≡ at v = ap at (at-back_port net ok v way.0 is_vertex way.1) in
        (omega (arith, h.0, there), omega (arith, h.1, back, same))
  ]
