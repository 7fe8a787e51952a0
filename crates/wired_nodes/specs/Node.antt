-- What a node with its ends keeps of its links.
use Rattle.std.specs.Prelude.{◌≡◌, ℕ, ◌-◌, ◌<◌, List, [], ◌∷◌, ◌++◌, map, length, take, Option, Some, None}
use Rattle.std.specs.Prelude.{false, slice_index_or, slice_set}
use Rattle.std.specs.List.{range_with_len}
use Rattle.interference.specs.Net.{Net, degree_of, neighbour_of, back_port_of}
use Rattle.wires.specs.declared.wire.Wire.{Wire}
use Rattle.alpha_core.specs.View.{View, port_at}
use Rattle.alpha_core.specs.Table.{is_due}
use Rattle.wired_nodes.specs.declared.aside.Aside.{Aside}
use Rattle.wired_nodes.specs.declared.aside.WhyAside.TheVariants.{Refused}

-- the links out of v, by port: each by its vertex and port
abbrev pub links_out : Net → ℕ → List (ℕ × ℕ)
links_out net v = map (λ i. (v, i)) (range_with_len 0 (degree_of net v))

-- the links that come to v, by the port of v: each by its vertex and port
abbrev pub links_in : Net → ℕ → List (ℕ × ℕ)
links_in net v = map (λ i. (neighbour_of net v i, back_port_of net v i)) (range_with_len 0 (degree_of net v))

-- the list of a port
abbrev pub by_port : {A : Type 0} → List (List A) → ℕ → List A
by_port lists = λ i. slice_index_or lists i []

module _ {M : Type 0} where
  abbrev pub all_but_last : List (Wire M) → List (Wire M)
  all_but_last ws = take (length ws - 1) ws

  -- The lists to which a node has reacted, of those that it took by port: the wire that it set aside is the last of its
  -- port, and isn't among them.
  abbrev pub reacted_to : Option (Aside M) → List (List (Wire M)) → List (List (Wire M))
  reacted_to None takens = takens
  reacted_to (Some aside) takens = slice_set takens aside.port (all_but_last (by_port takens aside.port))

  -- A wire that was set aside, by a node with this view: it was the last that came by its port, and isn't due if the
  -- node refused it.
  pub record IsAside (last : ℕ) (view : View M) (takens : List (List (Wire M))) (aside : Aside M) : Type 0 where
    pub port : aside.port < length takens
    pub came_last : by_port takens aside.port ≡ all_but_last (by_port takens aside.port) ++ (aside.wire ∷ [])
    pub refused : aside.why ≡ Refused → is_due last view.pulse view.said (port_at view aside.port) aside.wire ≡ false
