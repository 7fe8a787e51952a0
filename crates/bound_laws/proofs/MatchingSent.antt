-- After the colours of the forests a child says at each turn of its forest at most that it is free, to its parent; and a
-- parent takes one child at most, once.
use Rattle.std.proofs.Common.{◌≡◌, ◌≢◌, ℕ, zero, suc, ◌+◌, ◌-◌, ◌*◌, ◌/◌, ◌%◌, ◌<◌, ◌≤◌, List, refl, ap, sym, ◌∙◌, arith, subst, inl, inr}
use Rattle.std.specs.Prelude.{map, Option, Some, None}
use Rattle.std.proofs.lemmas.List.{get_or-map}
use Rattle.std.proofs.lemmas.Nat.{div-add-mod', div_below, mod_below}
use native.Mathlib.Decide.{dec_lt}
use Prim.{yes, no}
use Rattle.interference.specs.Net.{IsEdge, IsNetwork, IsVertex, Net, forest_count_of, id_of, neighbours, port_to}
use Rattle.interference.proofs.Neighbours.{at-port_to, port_to-below}
use Rattle.node_api.specs.Boxes.{at_port}
use Rattle.node_api.specs.Program.{last_pulse_on}
use Rattle.link_rule.specs.Sent.{sends}
use Rattle.forests.specs.Forests.{number, role_of}
use Rattle.forests.specs.declared.numbering.Role.TheVariants.{Up}
use Rattle.forests.proofs.Ends.{up-role}
use Rattle.matching.specs.Knowing.{Wire, matching, turns}
use Rattle.matching.specs.ProgramLaws.{at, turns_cut}
use Rattle.matching.proofs.OneTurn.{Turn, child, none-or-some, offer-some, offer_by, one_turn, taken-some, taken_by, told1, told2}
use Rattle.matching.proofs.Partners.{free-before, none_unless, partner}
use Rattle.bound_laws.proofs.ColouringSent.{by_ends}
use Rattle.bound_laws.proofs.Sent.{none-more, one-more, over, sent_below}
use Rattle.bound_laws.proofs.SequelSent.{both-before}

none-unless : (x : Option Wire) → ((y : Wire) → x ≡ Some y → ⊥) → x ≡ None
none-unless None none = refl
none-unless (Some y) none = absurd (none y refl)

module _ (net : Net) (ok : IsNetwork net) where
  sent-is : (p : ℕ) (sent : ℕ → ℕ → Option Wire) → ((v : ℕ) → IsVertex net v → (at net ok p v).1 ≡ map (sent v) (neighbours net v)) → (v w : ℕ) → IsEdge net v w
      → sends matching net v w p ≡ sent v w
  sent-is p sent told v w edge =
      ap (λ (out : List (Option Wire)). at_port out (port_to net v w)) (told v edge.0)
      ∙ (get_or-map (sent v) (neighbours net v) (port_to net v w) 0 None (port_to-below net ok v w edge.1)
      ∙ ap (sent v) (at-port_to net ok v w edge.1))

  -- turn t of all: its forest and its colour
  module _ (t : ℕ) (few : t < 3 * forest_count_of net) where
    when : 12 + t * 2 ≡ 12 + (t / 3 * 6 + t % 3 * 2)
    when = let e : t / 3 * 3 + t % 3 ≡ t = div-add-mod' t 3 in omega (arith, e)

    in_range : t / 3 < forest_count_of net
    in_range = div_below t 3 (forest_count_of net) (omega arith) (omega (arith, few))

    low : t % 3 < 3
    low = mod_below t 3 (omega arith)

    abbrev takes : ℕ → Option ℕ
    takes = child net ok (t / 3) (t % 3) (12 + t * 2) in_range low when

    turn : Turn net (t / 3) (t % 3) (partner net ok t) takes (partner net ok (suc t))
    turn =
        let made = one_turn net ok (t / 3) (t % 3) (12 + t * 2) in_range low when in
        let here : suc (12 + t * 2) ≡ 13 + t * 2 = omega arith in
        let there : suc (suc (suc (12 + t * 2))) ≡ 13 + suc t * 2 = omega arith in
        subst (λ (n : ℕ). Turn net (t / 3) (t % 3) (λ v. (at net ok n v).0.beside) takes (partner net ok (suc t))) here
        (subst (λ (n : ℕ). Turn net (t / 3) (t % 3) (λ v. (at net ok (suc (12 + t * 2)) v).0.beside) takes (λ v. (at net ok n v).0.beside)) there made)

    offered : (v w : ℕ) → IsEdge net v w
        → sends matching net v w (13 + t * 2) ≡ offer_by (t / 3) ((at net ok (suc (12 + t * 2)) v).0.beside) (role_of net v w)
    offered v w edge =
        ap (sends matching net v w) (let e : 13 + t * 2 ≡ suc (12 + t * 2) = omega arith in e)
        ∙ sent-is (suc (12 + t * 2)) (λ v w. offer_by (t / 3) ((at net ok (suc (12 + t * 2)) v).0.beside) (role_of net v w))
        (told1 net ok (t / 3) (t % 3) (12 + t * 2) in_range low when) v w edge

    taken : (v w : ℕ) → IsEdge net v w → sends matching net v w (suc (13 + t * 2)) ≡ taken_by (t / 3) (takes v) (port_to net v w)
    taken v w edge =
        ap (sends matching net v w) (let e : suc (13 + t * 2) ≡ suc (suc (12 + t * 2)) = omega arith in e)
        ∙ sent-is (suc (suc (12 + t * 2))) (λ v w. taken_by (t / 3) (takes v) (port_to net v w))
        (told2 net ok (t / 3) (t % 3) (12 + t * 2) in_range low when) v w edge

    -- nothing is said at the first pulse but by a child in this forest
    not-offered : (v w : ℕ) → IsEdge net v w → (role_of net v w ≡ Up (t / 3) → ⊥) → sends matching net v w (13 + t * 2) ≡ None
    not-offered v w edge other =
        let before : Option ℕ = (at net ok (suc (12 + t * 2)) v).0.beside in
        offered v w edge ∙ none-unless (offer_by (t / 3) before (role_of net v w)) (λ x is. other (offer-some (t / 3) before (role_of net v w) x is).1)

    -- nor at the second but by a node that takes this neighbour
    not-taken : (v w : ℕ) → IsEdge net v w → (takes v ≡ Some (port_to net v w) → ⊥) → sends matching net v w (suc (13 + t * 2)) ≡ None
    not-taken v w edge other =
        taken v w edge ∙ none-unless (taken_by (t / 3) (takes v) (port_to net v w)) (λ x is. other (taken-some (t / 3) (takes v) (port_to net v w) x is))

    -- a child takes no parent
    child-takes-none : (v w : ℕ) → IsEdge net v w → id_of net v < id_of net w → takes v ≡ Some (port_to net v w) → ⊥
    child-takes-none v w edge lower is =
        let facts = turn.chosen v (port_to net v w) edge.0 is in
        let up : role_of net w v ≡ Up (t / 3) = ap (λ (u : ℕ). role_of net u v) (sym (at-port_to net ok v w edge.1)) ∙ facts.4 in
        let higher : id_of net w < id_of net v = (up-role net w v (t / 3) up).0 in
        absurd (omega (arith, lower, higher))

    -- what a child sends in a turn
    child-turn : (v w : ℕ) → IsEdge net v w → id_of net v < id_of net w
        → sent_below (sends matching net v w) (13 + suc t * 2) ≤ sent_below (sends matching net v w) (13 + t * 2) + 1
    child-turn v w edge lower =
        let g : ℕ → Option Wire = sends matching net v w in
        let e : 13 + suc t * 2 ≡ suc (suc (13 + t * 2)) = omega arith in
        let second : sent_below g (suc (suc (13 + t * 2))) ≡ sent_below g (suc (13 + t * 2)) =
        none-more g (suc (13 + t * 2)) (not-taken v w edge (child-takes-none v w edge lower)) in
        rw e (omega (arith, second, one-more g (13 + t * 2)))

    child-quiet : (v w : ℕ) → IsEdge net v w → id_of net v < id_of net w → t / 3 ≢ number net v w
        → sent_below (sends matching net v w) (13 + suc t * 2) ≤ sent_below (sends matching net v w) (13 + t * 2)
    child-quiet v w edge lower other =
        let g : ℕ → Option Wire = sends matching net v w in
        let e : 13 + suc t * 2 ≡ suc (suc (13 + t * 2)) = omega arith in
        let first : sent_below g (suc (13 + t * 2)) ≡ sent_below g (13 + t * 2) =
        none-more g (13 + t * 2) (not-offered v w edge (λ up. other (sym (up-role net v w (t / 3) up).1))) in
        let second : sent_below g (suc (suc (13 + t * 2))) ≡ sent_below g (suc (13 + t * 2)) =
        none-more g (suc (13 + t * 2)) (not-taken v w edge (child-takes-none v w edge lower)) in
        rw e (omega (arith, first, second))

    -- what a parent sends in a turn: at most that it takes the child, and nothing if it takes none
    parent-first : (v w : ℕ) → IsEdge net v w → id_of net w < id_of net v
        → sent_below (sends matching net v w) (suc (13 + t * 2)) ≡ sent_below (sends matching net v w) (13 + t * 2)
    parent-first v w edge higher =
        none-more (sends matching net v w) (13 + t * 2)
        (not-offered v w edge (λ up. let lower : id_of net v < id_of net w = (up-role net v w (t / 3) up).0 in absurd (omega (arith, lower, higher))))

    parent-turn : (v w : ℕ) → IsEdge net v w → id_of net w < id_of net v
        → sent_below (sends matching net v w) (13 + suc t * 2) ≤ sent_below (sends matching net v w) (13 + t * 2) + 1
    parent-turn v w edge higher =
        let g : ℕ → Option Wire = sends matching net v w in
        let e : 13 + suc t * 2 ≡ suc (suc (13 + t * 2)) = omega arith in
        rw e (omega (arith, parent-first v w edge higher, one-more g (suc (13 + t * 2))))

    parent-quiet : (v w : ℕ) → IsEdge net v w → id_of net w < id_of net v → takes v ≡ None
        → sent_below (sends matching net v w) (13 + suc t * 2) ≤ sent_below (sends matching net v w) (13 + t * 2)
    parent-quiet v w edge higher idle =
        let g : ℕ → Option Wire = sends matching net v w in
        let e : 13 + suc t * 2 ≡ suc (suc (13 + t * 2)) = omega arith in
        let second : sent_below g (suc (suc (13 + t * 2))) ≡ sent_below g (suc (13 + t * 2)) =
        none-more g (suc (13 + t * 2)) (not-taken v w edge (λ is. let none : None ≡ Some (port_to net v w) = sym idle ∙ is in absurd cc)) in
        rw e (omega (arith, parent-first v w edge higher, second))

    free-idle : (v : ℕ) → IsVertex net v → partner net ok (suc t) v ≡ None → (partner net ok t v ≡ None) × (takes v ≡ None)
    free-idle v is_vertex free = (
      free-before net ok (t / 3) (t % 3) (partner net ok t) takes (partner net ok (suc t)) turn v is_vertex free,
      none_unless (takes v) (λ k is. let none : None ≡ Some k = sym free ∙ turn.takes v k is_vertex is in absurd cc),
    )

    matched-idle : (v k : ℕ) → IsVertex net v → partner net ok t v ≡ Some k → takes v ≡ None
    matched-idle v k is_vertex is =
        none_unless (takes v) (λ j taking. let none : None ≡ Some k = sym (turn.chosen v j is_vertex taking).0 ∙ is in absurd cc)

  -- a child speaks in the three turns of its forest alone
  child-turns : (t v w : ℕ) → t ≤ 3 * forest_count_of net → IsEdge net v w → id_of net v < id_of net w
      → (sent_below (sends matching net v w) (13 + t * 2) ≤ sent_below (sends matching net v w) 13 + (t - 3 * number net v w))
      × (sent_below (sends matching net v w) (13 + t * 2) ≤ sent_below (sends matching net v w) 13 + 3)
  child-turns zero v w h edge lower =
      let e : 13 + zero * 2 ≡ 13 = omega arith in
      let same : sent_below (sends matching net v w) (13 + zero * 2) ≡ sent_below (sends matching net v w) 13 = ap (sent_below (sends matching net v w)) e in
      (omega (arith, same), omega (arith, same))
  child-turns (suc t) v w h edge lower =
      let f : ℕ = number net v w in
      let before = child-turns t v w (omega (arith, h)) edge lower in
      let split : t / 3 * 3 + t % 3 ≡ t = div-add-mod' t 3 in
      let colour : t % 3 < 3 = mod_below t 3 (omega arith) in
      elim (dec_lt t (3 * f)) [
        | yes early ↦
            let quiet = child-quiet t (omega (arith, h)) v w edge lower (λ same. omega (arith, same, split, early)) in
            (omega (arith, quiet, before.0), omega (arith, quiet, before.1))
        | no here ↦ elim (dec_lt t (3 * f + 3)) [
          | yes now ↦
              let one = child-turn t (omega (arith, h)) v w edge lower in
              (omega (arith, one, before.0, here), omega (arith, one, before.0, here, now))
          | no late ↦
              let quiet = child-quiet t (omega (arith, h)) v w edge lower (λ same. omega (arith, same, split, colour, late)) in
              (omega (arith, quiet, before.0), omega (arith, quiet, before.1))
        ]
      ]

  -- a parent speaks once at most, and not while it is free
  parent-turns : (t v w : ℕ) → t ≤ 3 * forest_count_of net → IsEdge net v w → id_of net w < id_of net v
      → (partner net ok t v ≡ None → sent_below (sends matching net v w) (13 + t * 2) ≤ sent_below (sends matching net v w) 13)
      × (sent_below (sends matching net v w) (13 + t * 2) ≤ sent_below (sends matching net v w) 13 + 1)
  parent-turns zero v w h edge higher =
      let e : 13 + zero * 2 ≡ 13 = omega arith in
      let same : sent_below (sends matching net v w) (13 + zero * 2) ≡ sent_below (sends matching net v w) 13 = ap (sent_below (sends matching net v w)) e in
      ((λ free. omega (arith, same)), omega (arith, same))
  parent-turns (suc t) v w h edge higher =
      let before = parent-turns t v w (omega (arith, h)) edge higher in (
        (λ free.
            let idle = free-idle t (omega (arith, h)) v edge.0 free in
            omega (arith, before.0 idle.0, parent-quiet t (omega (arith, h)) v w edge higher idle.1)),
        elim (none-or-some (partner net ok t v)) [
          | inl free ↦ omega (arith, before.0 free, parent-turn t (omega (arith, h)) v w edge higher)
          | inr matched ↦
              omega (arith, before.1, parent-quiet t (omega (arith, h)) v w edge higher (matched-idle t (omega (arith, h)) v matched.0 edge.0 matched.1))
        ],
      )

  pub matching-over : (v w : ℕ) → IsEdge net v w → over matching net ok v w + over matching net ok w v ≤ 17
  matching-over v w edge =
      let t : ℕ = 3 * forest_count_of net in
      let e : last_pulse_on matching net ≡ 13 + t * 2 = omega arith in
      by_ends net ok (λ v w. over matching net ok v w + over matching net ok w v ≤ 17)
      (λ v w edge back lower.
      let early : sent_below (sends matching net v w) 13 + sent_below (sends matching net w v) 13 ≤ 13 + 2 * 0 =
      both-before turns turns_cut net ok 0 v w (omega arith) (omega arith) edge in
      let a : over matching net ok v w ≡ sent_below (sends matching net v w) (13 + t * 2) = ap (sent_below (sends matching net v w)) e in
      let b : over matching net ok w v ≡ sent_below (sends matching net w v) (13 + t * 2) = ap (sent_below (sends matching net w v)) e in
      let up = (child-turns t v w (omega arith) edge lower).1 in
      let down = (parent-turns t w v (omega arith) back lower).1 in
      (omega (arith, early, a, b, up, down), omega (arith, early, a, b, up, down)))
      v w edge
