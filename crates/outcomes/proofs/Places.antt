-- Each end that was gathered stands at the place of its link.
use Rattle.std.proofs.Common.{◌≡◌, ℕ, List, map, sym, ◌∙◌}
use Rattle.interference.specs.Net.{Net, IsNetwork, neighbour_of, back_port_of, vertices}
use Rattle.alpha_laws.proofs.Across.{over}
use Rattle.wired_nodes.specs.Node.{links_in, links_out}
use Rattle.port_rows.specs.Rows.{AreCrossed}
use Rattle.port_rows.proofs.Rows.{by_entries, by_nodes, entry_of}

module _ {A E : Type 0} (net : Net) (ok : IsNetwork net) (vertex_of : A → ℕ) (nodes : List A) (order : map vertex_of nodes ≡ vertices net)
    (puts : A → List E) (put_place : E → ℕ × ℕ) (outs : (a : A) → map put_place (puts a) ≡ links_out net (vertex_of a)) where
  -- once they have crossed, the ends that take stand where those that put do
  pub ends_meet : {F : Type 0} (takes : A → List F) (take_place : F → ℕ × ℕ) → ((a : A) → map take_place (takes a) ≡ links_in net (vertex_of a))
      → (crossed : List (List F)) → AreCrossed net (map takes nodes) crossed
      → map (λ row. map take_place row) crossed ≡ map (λ row. map put_place row) (map puts nodes)
  ends_meet takes take_place ins crossed are =
      by_entries net take_place (λ v i. (v, i)) crossed are.shape
      (λ v i vertex lt x is.
      entry_of net vertex_of nodes order takes take_place (λ v i. (neighbour_of net v i, back_port_of net v i)) ins
      (neighbour_of net v i) (back_port_of net v i) (ok.vertices v i vertex lt) (ok.symmetric v i vertex lt) x (sym (are.at v i vertex lt) ∙ is)
      ∙ over {X = ℕ × ℕ} net ok (λ a b. (a, b)) v i vertex lt)
      ∙ sym (by_nodes net vertex_of nodes order puts put_place (λ v i. (v, i)) outs)
