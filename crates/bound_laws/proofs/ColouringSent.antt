-- How many payloads the colouring sends over an edge. A child sends its greeting, its label and its choices to its
-- parent; a parent its greeting, ten colours and its choices to its child; and each makes a choice in each forest.
use Rattle.std.proofs.Common.{◌≡◌, ◌≢◌, ℕ, zero, suc, ◌+◌, ◌-◌, ◌*◌, ◌<◌, ◌≤◌, ◌==◌, Bool, true, false, List, refl, ap, sym, ◌∙◌, arith, inl, inr}
use Rattle.std.proofs.Common.{subst}
use Rattle.std.specs.Prelude.{if◌then◌else◌, nat_le, nat_lt, Option, Some, None}
use Rattle.std.proofs.lemmas.Bool.{cases_order, le-ltb, lt-leb, ne_eqb}
use Rattle.std.proofs.lemmas.List.{get_or-map}
use Rattle.interference.specs.Net.{IsEdge, IsNetwork, Net, forest_count_of, id_of, neighbours, port_to}
use Rattle.interference.proofs.Neighbours.{at-port_to, both-ways, neighbour-is_vertex, port_to-below}
use Rattle.node_api.specs.Boxes.{at_port}
use Rattle.node_api.specs.Program.{sizes_of}
use Rattle.forests.specs.Forests.{number, role_of}
use Rattle.forests.specs.declared.numbering.Role.TheVariants.{Down, Unknown, Up}
use Rattle.forests.proofs.Ends.{ends-apart, number-alike, to-up}
use Rattle.colour_rules.specs.declared.payload.Payload.{Payload}
use Rattle.colour_rules.specs.declared.payload.Payload.TheVariants.{Chosen}
use native.Mathlib.Decide.{dec_lt}
use Prim.{yes, no}
use Rattle.colour_rules.specs.Node.{Node, last, steps}
use Rattle.colour_rules.specs.Program.{colouring, tells_chosen, tells_colour, tells_label}
use Rattle.colour_laws.proofs.Expected.{by_forest, chose, stages, state_after_choice, state_while_reducing, step_in, tells}
use Rattle.colour_laws.proofs.Forests.{has_forest, has_start}
use Rattle.colour_laws.proofs.Runs.{merge_goes, work_stands}
use Rattle.colour_laws.proofs.Stands.{HoldsAfter, stand_next}
use Rattle.colour_laws.proofs.Starts.{oriented_node, oriented_stand, seeded, tells_one}
use Rattle.colour_laws.specs.Colours.{colours_after}
use Rattle.link_rule.specs.Sent.{sends}
use Rattle.bound_laws.proofs.Sent.{at-most, no-less, none-more, once, over, quiet, sent_below}

module _ (net : Net) (ok : IsNetwork net) where
  -- what a node has sent to a neighbour, by what it has sent by its neighbours
  sent-is : (p : ℕ) (state : ℕ → Node) (sent : ℕ → ℕ → Option Payload) → HoldsAfter net p state sent → (v w : ℕ) → IsEdge net v w
      → sends colouring net v w p ≡ sent v w
  sent-is p state sent stands v w edge =
      ap (λ (node : Node × List (Option Payload)). at_port node.1 (port_to net v w)) (stands v edge.0)
      ∙ (get_or-map (sent v) (neighbours net v) (port_to net v w) 0 None (port_to-below net ok v w edge.1)
      ∙ ap (sent v) (at-port_to net ok v w edge.1))

  -- pulses 2 to 12
  told-colours : (q v w : ℕ) → q ≤ 10 → IsEdge net v w → sends colouring net v w (2 + q) ≡ tells net q v w
  told-colours q v w h edge =
      ap (sends colouring net v w) (let e : 2 + q ≡ q + 2 = omega arith in e)
      ∙ sent-is (q + 2) (state_while_reducing net q) (tells net q)
      (work_stands net ok (has_forest net ok) (seeded net ok (has_forest net ok) (has_start net ok)) q h) v w edge

  -- the pulses from 13 on
  told-choice : (f s v w : ℕ) → f < forest_count_of net → s < steps (sizes_of net) → IsEdge net v w
      → sends colouring net v w (13 + f * steps (sizes_of net) + s) ≡ chose net f s v w
  told-choice f s v w in_range below edge =
      let t : ℕ = f * steps (sizes_of net) + s in
      ap (sends colouring net v w) (let e : 13 + f * steps (sizes_of net) + s ≡ suc (12 + t) = omega arith in e)
      ∙ sent-is (suc (12 + t)) (state_after_choice net f s) (chose net f s)
      (stand_next net (12 + t) (state_after_choice net f s) (chose net f s)
      (merge_goes net ok (has_forest net ok) (seeded net ok (has_forest net ok) (has_start net ok)) t f s refl in_range below)) v w edge

  not-last : (q : ℕ) (x y : Option Payload) → x ≡ None → y ≡ None → (if q == 10 then x else y) ≡ None
  not-last q x y a b = either (q == 10)
    where
      either : (c : Bool) → (if c then x else y) ≡ None
      either true = a
      either false = b

  -- a child, up to pulse 12
  child-early : (v w : ℕ) → IsEdge net v w → id_of net v < id_of net w → sent_below (sends colouring net v w) 13 ≤ 2
  child-early v w edge low =
      let first : sent_below (sends colouring net v w) (0 + 2) ≤ sent_below (sends colouring net v w) 0 + 2 = at-most (sends colouring net v w) 0 2 in
      let later : sent_below (sends colouring net v w) (2 + 11) ≡ sent_below (sends colouring net v w) 2 = quiet (sends colouring net v w) 2 11
      (λ q h. told-colours q v w (omega (arith, h)) edge
      ∙ not-last q None (tells_colour (by_forest net (λ f. (stages net f q).0 v)) (role_of net v w)) refl
      (ap (tells_colour (by_forest net (λ f. (stages net f q).0 v))) (to-up net v w low))) in
      omega (arith, first, later)

  -- a parent, up to pulse 12
  parent-early : (v w : ℕ) → IsEdge net v w → id_of net w < id_of net v → sent_below (sends colouring net v w) 13 ≤ 11
  parent-early v w edge high =
      let g : ℕ → Option Payload = sends colouring net v w in
      let first : sent_below g (0 + 1) ≤ sent_below g 0 + 1 = at-most g 0 1 in
      let second : sent_below g 2 ≡ sent_below g 1 = none-more g 1
      (sent-is 1 (oriented_node net) (tells_one net ok (has_forest net ok) (has_start net ok))
      (oriented_stand net ok (has_forest net ok) (has_start net ok)) v w edge
      ∙ ap (λ (b : Bool). tells_label (if b then Up (number net v w) else Unknown)) (le-ltb (id_of net v) (id_of net w) (omega (arith, high)))) in
      let ten : sent_below g (2 + 10) ≤ sent_below g 2 + 10 = at-most g 2 10 in
      let last_one : sent_below g 13 ≡ sent_below g 12 = none-more g 12 (told-colours 10 v w (omega arith) edge) in
      omega (arith, first, second, ten, last_one)

  -- a choice is made at one step of a forest
  other-step : (f s v w : ℕ) → s ≢ step_in net f v → chose net f s v w ≡ None
  other-step f s v w other =
      let test : (step_in net f v == s) ≡ false = ne_eqb (step_in net f v) s (λ e. other (sym e)) in
      ap (λ (b : Bool). if b then (if suc s == steps (sizes_of net) then None
      else tells_chosen f (colours_after net (suc f) v) (role_of net v w)) else None) test

  -- nor is one told over an edge of a later forest
  later-forest : (f s v w : ℕ) → f < number net v w → chose net f s v w ≡ None
  unfolding role_of
  later-forest f s v w later =
      let test : nat_le (number net v w) f ≡ false = lt-leb (number net v w) f later in
      let c : ℕ = colours_after net (suc f) v in
      none-told (step_in net f v == s) (suc s == steps (sizes_of net)) (tells_chosen f c (role_of net v w))
      (by-role f c (nat_lt (id_of net v) (id_of net w)) (number net v w) test)
    where
      none-told : (a b : Bool) (x : Option Payload) → x ≡ None → (if a then (if b then None else x) else None) ≡ None
      none-told true true x e = refl
      none-told true false x e = e
      none-told false b x e = refl

      by-role : (f c : ℕ) (b : Bool) (g : ℕ) → nat_le g f ≡ false → tells_chosen f c (if b then Up g else Down g) ≡ None
      by-role f c true g e = ap (λ (d : Bool). if d then Some (Chosen c) else None) e
      by-role f c false g e = ap (λ (d : Bool). if d then Some (Chosen c) else None) e

  -- a choice in each forest from that of the edge on
  pub choices : (f v w : ℕ) → f ≤ forest_count_of net → IsEdge net v w
      → sent_below (sends colouring net v w) (13 + f * steps (sizes_of net)) ≤ sent_below (sends colouring net v w) 13 + (f - number net v w)
  choices zero v w h edge = let e : 13 + zero * steps (sizes_of net) ≡ 13 = omega arith in rw e (omega arith)
  choices (suc f) v w h edge =
      let size : ℕ = steps (sizes_of net) in
      let g : ℕ → Option Payload = sends colouring net v w in
      let e : 13 + suc f * size ≡ 13 + f * size + size = omega arith in
      let before = choices f v w (omega (arith, h)) edge in
      subst (λ (n : ℕ). sent_below g n ≤ sent_below g 13 + (suc f - number net v w)) (sym e)
      (elim (dec_lt f (number net v w)) [
        | yes later ↦
            let none : sent_below g (13 + f * size + size) ≡ sent_below g (13 + f * size) = quiet g (13 + f * size) size
            (λ s below. told-choice f s v w (omega (arith, h)) below edge ∙ later-forest f s v w later) in
            omega (arith, none, before)
        | no now ↦
            let one : sent_below g (13 + f * size + size) ≤ sent_below g (13 + f * size) + 1 = once g (13 + f * size) size (step_in net f v)
            (λ s below other. told-choice f s v w (omega (arith, h)) below edge ∙ other-step f s v w other) in
            omega (arith, one, before, now)
      ])

  -- one end of each edge is the child
  pub by_ends : (P : ℕ → ℕ → Type 0) → ((v w : ℕ) → IsEdge net v w → IsEdge net w v → id_of net v < id_of net w → P v w × P w v)
      → (v w : ℕ) → IsEdge net v w → P v w
  by_ends P child v w edge =
      let back : IsEdge net w v = (neighbour-is_vertex net ok v w edge.0 edge.1, both-ways net ok v w edge.0 edge.1) in
      elim (cases_order (id_of net v) (id_of net w)) [
        | inl same ↦ absurd (ends-apart net ok v w edge.0 edge.1 (sym same))
        | inr side ↦ elim side [
          | inl lower ↦ (child v w edge back lower).0
          | inr higher ↦ (child w v back edge higher).1
        ]
      ]

  -- both ends of an edge, up to the pulse before the merging of forest f
  pub both-early : (f v w : ℕ) → f ≤ forest_count_of net → IsEdge net v w →
      sent_below (sends colouring net v w) (13 + f * steps (sizes_of net)) + sent_below (sends colouring net w v) (13 + f * steps (sizes_of net))
      ≤ 13 + 2 * (f - number net v w)
  both-early f v w h edge =
      let n : ℕ = 13 + f * steps (sizes_of net) in
      by_ends (λ v w. sent_below (sends colouring net v w) n + sent_below (sends colouring net w v) n ≤ 13 + 2 * (f - number net v w))
      (λ v w edge back low.
      let a : sent_below (sends colouring net v w) n ≤ sent_below (sends colouring net v w) 13 + (f - number net v w) = choices f v w h edge in
      let b : sent_below (sends colouring net w v) n ≤ sent_below (sends colouring net w v) 13 + (f - number net w v) = choices f w v h back in
      let c : sent_below (sends colouring net v w) 13 ≤ 2 = child-early v w edge low in
      let d : sent_below (sends colouring net w v) 13 ≤ 11 = parent-early w v back low in
      let alike : number net v w ≡ number net w v = number-alike net ok v w edge.0 edge.1 in
      (omega (arith, a, b, c, d, alike), omega (arith, a, b, c, d, alike)))
      v w edge

  pub colouring-over : (v w : ℕ) → IsEdge net v w
      → over colouring net ok v w + over colouring net ok w v ≤ 13 + 2 * (forest_count_of net - number net v w)
  colouring-over v w edge =
      let u : ℕ = forest_count_of net in
      let n : ℕ = 13 + u * steps (sizes_of net) in
      let low : last (sizes_of net) ≤ n = omega arith in
      let a : over colouring net ok v w ≤ sent_below (sends colouring net v w) n = no-less (sends colouring net v w) (last (sizes_of net)) n low in
      let b : over colouring net ok w v ≤ sent_below (sends colouring net w v) n = no-less (sends colouring net w v) (last (sizes_of net)) n low in
      let both : sent_below (sends colouring net v w) n + sent_below (sends colouring net w v) n ≤ 13 + 2 * (u - number net v w) =
      both-early u v w (omega arith) edge in
      omega (arith, a, b, both)
