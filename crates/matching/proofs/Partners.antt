-- The partners after each turn, and after the last: each partner's partner is the node, and no edge has two free ends.
use Rattle.std.proofs.Common.{◌≡◌, ℕ, zero, suc, ◌+◌, ◌-◌, ◌*◌, ◌/◌, ◌%◌, ◌<◌, ◌≤◌, List, refl, ap, sym, ◌∙◌, arith, subst, inl, inr}
use Rattle.std.specs.Prelude.{map, Contains, Option, Some, None}
use Rattle.std.specs.Option.{option_or}
use Rattle.std.proofs.lemmas.Nat.{div-add-mod', div_below, mod_below}
use Rattle.interference.specs.Net.{Net, IsNetwork, IsVertex, degree_of, neighbours, neighbour_of, port_to, forest_count_of}
use Rattle.interference.proofs.Neighbours.{at-back_port, back-of-back_port, port-of, same-port}
use Rattle.node_api.specs.Run.{inbox_from}
use Rattle.forests.specs.Forests.{parent, role_of}
use Rattle.forests.specs.declared.numbering.Role.{Role}
use Rattle.forests.specs.declared.numbering.Role.TheVariants.{Unknown, Up, Down}
use Rattle.colour_laws.proofs.Choices.{three_within}
use Rattle.colour_laws.proofs.Expected.{IsForest}
use Rattle.colour_laws.proofs.Forests.{has_forest}
use Rattle.node_api.proofs.Inboxes.{inbox_is}
use Rattle.node_api.proofs.Outboxes.{same-for_all}
use Rattle.colour_laws.proofs.Proper.{three_proper}
use Rattle.node_api.specs.First.{first_came}
use Rattle.followed.specs.Followed.{Both}
use Rattle.colour_rules.specs.Node.{Node}
use Rattle.matching.specs.Knowing.{Wire}
use Rattle.matching.specs.ProgramLaws.{at, at-first, at-turn}
use Rattle.node_api.proofs.Firsts.{first-comes}
use Rattle.matching.proofs.OneTurn.{Turn, child, colour, one_turn}

-- each partner is a neighbour whose partner this is
abbrev pub ArePartners : Net → (ℕ → Option ℕ) → Type 0
ArePartners net partner = (v k : ℕ) → IsVertex net v → partner v ≡ Some k →
    (k < degree_of net v) × (partner (neighbour_of net v k) ≡ Some (port_to net (neighbour_of net v k) v))

pub none_unless : (x : Option ℕ) → ((k : ℕ) → x ≡ Some k → ⊥) → x ≡ None
none_unless None none = refl
none_unless (Some k) none = absurd (none k refl)

module _ (net : Net) (ok : IsNetwork net) (f c : ℕ) (before child after : ℕ → Option ℕ) (turn : Turn net f c before child after) where
  forest : IsForest net
  forest = has_forest net ok

  -- a child that is taken has only this parent in the forest, and takes no child itself
  child-taken : (v k : ℕ) → IsVertex net v → child v ≡ Some k → after (neighbour_of net v k) ≡ Some (port_to net (neighbour_of net v k) v)
  child-taken v k is_vertex is =
      let w : ℕ = neighbour_of net v k in
      let facts = turn.chosen v k is_vertex is in
      let inside : IsVertex net w = ok.vertices v k is_vertex facts.2 in
      let port : ℕ = port_to net w v in
      let below : port < degree_of net w = ok.symmetric v k is_vertex facts.2 in
      let back : neighbour_of net w port ≡ v = at-back_port net ok v k is_vertex facts.2 in
      let above : parent net f w ≡ Some v = (forest.up w port f inside below (ap (role_of net w) back ∙ facts.4)).0 ∙ ap (λ (u : ℕ). Some u) back in
      let idle : child w ≡ None = none_unless (child w) (λ j takes. three_proper net ok f w v above ((turn.chosen w j inside takes).1 ∙ sym facts.1)) in
      let told : child (neighbour_of net w port) ≡ Some (port_to net (neighbour_of net w port) w) =
      ap child back ∙ (is ∙ ap (λ (n : ℕ). Some n) (sym (back-of-back_port net ok v k is_vertex facts.2))) in
      let taken = turn.taken w port inside facts.3 idle below told in
      let u : ℕ = neighbour_of net w taken.0 in
      let beside : IsVertex net u = ok.vertices w taken.0 inside taken.1 in
      let leads : neighbour_of net u (port_to net u w) ≡ w = at-back_port net ok w taken.0 inside taken.1 in
      let up : role_of net w u ≡ Up f = ap (λ (x : ℕ). role_of net x u) (sym leads) ∙ (turn.chosen u (port_to net u w) beside taken.2).4 in
      let too : parent net f w ≡ Some u = (forest.up w taken.0 f inside taken.1 up).0 in
      let one : u ≡ v = (let two : Some u ≡ Some v = sym too ∙ above in cc) in
      taken.3 ∙ ap (λ (n : ℕ). Some n) (same-port net ok w taken.0 port inside taken.1 below (one ∙ sym back))

  pub partners-kept : ArePartners net before → ArePartners net after
  partners-kept old v k is_vertex is = elim (turn.by v k is_vertex is) [
    | inl stayed ↦
        let was = old v k is_vertex stayed in
        (was.0, turn.stays (neighbour_of net v k) (port_to net (neighbour_of net v k) v) (ok.vertices v k is_vertex was.0) was.1)
    | inr side ↦ elim side [
      | inl takes ↦ ((turn.chosen v k is_vertex takes).2, child-taken v k is_vertex takes)
      | inr taken ↦ (taken.0, turn.takes (neighbour_of net v k) (port_to net (neighbour_of net v k) v) (ok.vertices v k is_vertex taken.0) taken.1)
    ]
  ]

  -- a node that is free after the turn was so before
  pub free-before : (v : ℕ) → IsVertex net v → after v ≡ None → before v ≡ None
  free-before v is_vertex free = none_unless (before v) (λ k was. let none : None ≡ Some k = sym free ∙ turn.stays v k is_vertex was in cc)

  -- of a node and its parent of this colour one isn't
  pub one-matched : (w k : ℕ) → IsVertex net w → k < degree_of net w → role_of net w (neighbour_of net w k) ≡ Up f → colour net f (neighbour_of net w k) ≡ c →
      after w ≡ None → after (neighbour_of net w k) ≡ None → ⊥
  one-matched w k is_vertex below up own free parent_free =
      let v : ℕ = neighbour_of net w k in
      let inside : IsVertex net v = ok.vertices w k is_vertex below in
      let port : ℕ = port_to net v w in
      let back : neighbour_of net v port ≡ w = at-back_port net ok w k is_vertex below in
      let idle : child v ≡ None = none_unless (child v) (λ j takes. let none : None ≡ Some j = sym parent_free ∙ turn.takes v j inside takes in cc) in
      turn.some v port inside (free-before v inside parent_free) own (ok.symmetric w k is_vertex below)
      (ap before back ∙ free-before w is_vertex free) (ap (λ (x : ℕ). role_of net x v) back ∙ up) idle

module _ (net : Net) (ok : IsNetwork net) where
  -- the partners when t turns are over
  abbrev pub partner : ℕ → ℕ → Option ℕ
  partner t v = (at net ok (13 + t * 2) v).0.beside

  abbrev turns : ℕ
  turns = 3 * forest_count_of net

  turn_at : (t f c : ℕ) → t ≡ f * 3 + c → f < forest_count_of net → (low : c < 3) →
      (taken : ℕ → Option ℕ) × Turn net f c (partner t) taken (partner (suc t))
  turn_at t f c e in_range low =
      let p : ℕ = 12 + t * 2 in
      let when : p ≡ 12 + (f * 6 + c * 2) = omega (arith, e) in
      let here : suc p ≡ 13 + t * 2 = omega arith in
      let there : suc (suc (suc p)) ≡ 13 + suc t * 2 = omega arith in (
        child net ok f c p in_range low when,
        subst (λ (n : ℕ). Turn net f c (λ v. (at net ok n v).0.beside) (child net ok f c p in_range low when) (partner (suc t))) here
            (subst (λ (n : ℕ). Turn net f c (λ v. (at net ok (suc p) v).0.beside) (child net ok f c p in_range low when) (λ v. (at net ok n v).0.beside)) there
            (one_turn net ok f c p in_range low when)),
      )

  -- turn t, which is that of forest t / 3 and colour t % 3
  turn_of : (t : ℕ) → t < turns → (taken : ℕ → Option ℕ) × Turn net (t / 3) (t % 3) (partner t) taken (partner (suc t))
  turn_of t h = turn_at t (t / 3) (t % 3) (sym (div-add-mod' t 3)) (div_below t 3 (forest_count_of net) (omega arith) (omega (arith, h)))
      (mod_below t 3 (omega arith))

  -- before the first turn all are free
  free_first : (v : ℕ) → IsVertex net v → partner 0 v ≡ None
  free_first v is_vertex =
      let came : inbox_from net (at net ok 12) v ≡ map (λ w. None) (neighbours net v) =
      inbox_is net ok (at net ok 12) (λ w u. None)
      (λ w h. ap (λ (next : Both Node (Option ℕ) × List (Option Wire)). next.1) (at-first net ok w h) ∙ same-for_all None (neighbours net w)) v is_vertex in
      let nobody : first_came (inbox_from net (at net ok 12) v) ≡ None =
      none_unless (first_came (inbox_from net (at net ok 12) v)) (λ k is.
      let comes = first-comes {M = Wire} (λ w. None) (neighbours net v) 0 k (ap first_came (sym came) ∙ is) in
      let none : None ≡ Some comes.2.payload = comes.2.came in cc) in
      ap (λ (next : Both Node (Option ℕ) × List (Option Wire)). next.0.beside) (at-turn net ok 12 v is_vertex (omega arith))
      ∙ (ap (λ (next : Both Node (Option ℕ) × List (Option Wire)). option_or next.0.beside (first_came (inbox_from net (at net ok 12) v)))
      (at-first net ok v is_vertex)
      ∙ nobody)

  pub are_partners : (t : ℕ) → t ≤ turns → ArePartners net (partner t)
  are_partners zero h v k is_vertex is = let none : None ≡ Some k = sym (free_first v is_vertex) ∙ is in absurd cc
  are_partners (suc t) h v k is_vertex is =
      let turn = turn_of t h in
      partners-kept net ok (t / 3) (t % 3) (partner t) turn.0 (partner (suc t)) turn.1 (are_partners t (omega (arith, h))) v k is_vertex is

  free_earlier : (d t v : ℕ) → t + d ≡ turns → IsVertex net v → partner turns v ≡ None → partner t v ≡ None
  free_earlier zero t v e is_vertex free = subst (λ (n : ℕ). partner n v ≡ None) (let same : turns ≡ t = omega (arith, e) in same) free
  free_earlier (suc d) t v e is_vertex free =
      let turn = turn_of t (omega (arith, e)) in
      free-before net ok (t / 3) (t % 3) (partner t) turn.0 (partner (suc t)) turn.1 v is_vertex
      (free_earlier d (suc t) v (omega (arith, e)) is_vertex free)

  up-matched : (f w k : ℕ) → IsVertex net w → k < degree_of net w → role_of net w (neighbour_of net w k) ≡ Up f →
      partner turns w ≡ None → partner turns (neighbour_of net w k) ≡ None → ⊥
  up-matched f w k is_vertex below up free parent_free =
      let v : ℕ = neighbour_of net w k in
      let in_range : f < forest_count_of net = ((has_forest net ok).up w k f is_vertex below up).2 in
      let c : ℕ = colour net f v in
      let within : c ≤ 2 = three_within net (has_forest net ok) f v in
      let t : ℕ = f * 3 + c in
      let turn = turn_at t f c refl in_range (omega (arith, within)) in
      let left : suc t + (turns - suc t) ≡ turns = omega (arith, in_range, within) in
      one-matched net ok f c (partner t) turn.0 (partner (suc t)) turn.1 w k is_vertex below up refl
      (free_earlier (turns - suc t) (suc t) w left is_vertex free)
      (free_earlier (turns - suc t) (suc t) v left (ok.vertices w k is_vertex below) parent_free)

  port-matched : (v k : ℕ) → IsVertex net v → k < degree_of net v → (role : Role) → role_of net v (neighbour_of net v k) ≡ role →
      partner turns v ≡ None → partner turns (neighbour_of net v k) ≡ None → ⊥
  port-matched v k is_vertex below Unknown e free other = (has_forest net ok).known v k is_vertex below e
  port-matched v k is_vertex below (Up f) e free other = up-matched f v k is_vertex below e free other
  port-matched v k is_vertex below (Down f) e free other =
      let w : ℕ = neighbour_of net v k in
      let back : neighbour_of net w (port_to net w v) ≡ v = at-back_port net ok v k is_vertex below in
      up-matched f w (port_to net w v) (ok.vertices v k is_vertex below) (ok.symmetric v k is_vertex below)
      (ap (role_of net w) back ∙ ((has_forest net ok).down v k f is_vertex below e).0) other (ap (partner turns) back ∙ free)

  pub no-free-edge : (v w : ℕ) → IsVertex net v → Contains (neighbours net v) w → partner turns v ≡ None → partner turns w ≡ None → ⊥
  no-free-edge v w is_vertex near free other =
      let port = port-of net ok v w near in
      port-matched v port.0 is_vertex port.1 (role_of net v (neighbour_of net v port.0)) refl free (ap (partner turns) port.2 ∙ other)
