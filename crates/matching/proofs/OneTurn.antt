-- What one turn of a forest does: by the partners before it, whom each node takes, and the partners after it.
use Rattle.std.proofs.Common.{◌≡◌, ℕ, suc, ◌+◌, ◌-◌, ◌*◌, ◌/◌, ◌%◌, ◌<◌, ◌==◌, Bool, true, false, List, length, refl, ap, sym, ◌∙◌, arith, subst, get_or, inl}
use Rattle.std.proofs.Common.{inr}
use Rattle.std.specs.Prelude.{◌⊎◌, ◌&&◌, if◌then◌else◌, map, nat_lt, slice_index, slice_set, Option, Some, None}
use Rattle.std.specs.Option.{option_or}
use Rattle.std.proofs.lemmas.Bool.Decides.{nat_tests}
use Rattle.std.proofs.lemmas.Bool.{and_parts, cases_eq, lt-ltb}
use Rattle.std.proofs.lemmas.List.{ext_get_or, get_or-map, get_or-set_other, get_or-set_same, length-map, length-replicate, length-set}
use Rattle.std.proofs.lemmas.Nat.{div-mul-add, mod-mul-add}
use Rattle.std.proofs.lemmas.Simd.{map-map}
use Rattle.interference.specs.Net.{Net, IsNetwork, IsVertex, id_of, degree_of, neighbours, neighbour_of, port_to, forest_count_of}
use Rattle.node_api.specs.Boxes.{at_port, nothing}
use Rattle.node_api.specs.Run.{inbox_from}
use Rattle.node_api.proofs.Slots.{at_port-nothing}
use Rattle.interference.proofs.Neighbours.{at-back_port, back-of-back_port}
use Rattle.followed.specs.Followed.{Both, beside_of}
use Rattle.forests.specs.Forests.{parent, role_of}
use Rattle.forests.specs.declared.numbering.Role.{Role}
use Rattle.forests.specs.declared.numbering.Role.TheVariants.{Unknown, Up, Down}
use Rattle.node_api.proofs.Outboxes.{same-for_all}
use Rattle.colour_laws.specs.Colours.{three}
use Rattle.colour_rules.specs.Node.{Node, ports}
use Rattle.colour_laws.proofs.Expected.{stages, state_while_reducing}
use Rattle.node_api.proofs.Inboxes.{inbox_is}
use Rattle.colour_laws.proofs.Ports.{in_forest, same_forest}
use Rattle.colour_laws.proofs.Sound.{stages_are_three}
use Rattle.node_api.specs.First.{first_came}
use Rattle.matching.specs.Knowing.{Wire, chooses, is_turn, offers, offered, takes, tells_free, told_free, told_taken, took, unless_matched}
use Rattle.matching.specs.ProgramLaws.{at, at-turn, turn-even, turn-odd}
use Rattle.node_api.proofs.Firsts.{comes-none, first-comes}

-- the colour of a node in a forest
abbrev pub colour : Net → ℕ → ℕ → ℕ
colour net f v = three (parent net f) (id_of net) v

-- What a turn of colour c in forest f does: `child` is the port of the child that a node takes.
pub record Turn (net : Net) (f c : ℕ) (before child after : ℕ → Option ℕ) : Type 0 where
  -- a free node of the colour takes a free child
  pub chosen : (v k : ℕ) → IsVertex net v → child v ≡ Some k → (before v ≡ None) × (colour net f v ≡ c) × (k < degree_of net v) ×
      (before (neighbour_of net v k) ≡ None) × (role_of net (neighbour_of net v k) v ≡ Up f)
  -- if it has one
  pub some : (v k : ℕ) → IsVertex net v → before v ≡ None → colour net f v ≡ c → k < degree_of net v → before (neighbour_of net v k) ≡ None →
      role_of net (neighbour_of net v k) v ≡ Up f → child v ≡ None → ⊥
  -- partners stay, a node that takes a child is matched with it, and a node that is taken with one that took it
  pub stays : (v k : ℕ) → IsVertex net v → before v ≡ Some k → after v ≡ Some k
  pub takes : (v k : ℕ) → IsVertex net v → child v ≡ Some k → after v ≡ Some k
  pub taken : (v k : ℕ) → IsVertex net v → before v ≡ None → child v ≡ None → k < degree_of net v →
      child (neighbour_of net v k) ≡ Some (port_to net (neighbour_of net v k) v) →
      (j : ℕ) × (j < degree_of net v) × (child (neighbour_of net v j) ≡ Some (port_to net (neighbour_of net v j) v)) × (after v ≡ Some j)
  -- and there are no other partners
  pub by : (v k : ℕ) → IsVertex net v → after v ≡ Some k → (before v ≡ Some k) ⊎ ((child v ≡ Some k) ⊎
      ((k < degree_of net v) × (child (neighbour_of net v k) ≡ Some (port_to net (neighbour_of net v k) v))))

-- what is told at one port, at the first pulse of a turn and at the second
abbrev pub offer_by : ℕ → Option ℕ → Role → Option Wire
offer_by f None role = tells_free f role
offer_by f (Some port) role = None

abbrev pub taken_by : ℕ → Option ℕ → ℕ → Option Wire
taken_by f None k = None
taken_by f (Some j) k = if k == j then Some (chooses f) else None

told_free-map : (f : ℕ) (partner : Option ℕ) (role : ℕ → Role) (ws : List ℕ) →
    told_free partner f (map role ws) ≡ map (λ w. offer_by f partner (role w)) ws
told_free-map f None role ws = map-map (tells_free f) role ws
told_free-map f (Some port) role ws = ap (λ (n : ℕ). nothing n) (length-map ws role) ∙ same-for_all None ws

pub offer-some : (f : ℕ) (partner : Option ℕ) (role : Role) (x : Wire) → offer_by f partner role ≡ Some x → (partner ≡ None) × (role ≡ Up f)
offer-some f (Some port) role x e = absurd cc
offer-some f None Unknown x e = absurd cc
offer-some f None (Down g) x e = absurd cc
offer-some f None (Up g) x e = elim (cases_eq g f) [
  | inl same ↦ (refl, ap (λ (n : ℕ). Up n) same)
  | inr other ↦
      let test : (g == f) ≡ false = grind (arith, nat_tests) in
      let none : None ≡ Some x = subst (λ (b : Bool). (if b then Some (offers g) else None) ≡ Some x) test e in absurd cc
]

offer-is : (f : ℕ) (partner : Option ℕ) (role : Role) → partner ≡ None → role ≡ Up f → offer_by f partner role ≡ Some (offers f)
offer-is f partner role free up =
    ap (λ (p : Option ℕ). offer_by f p role) free ∙ (ap (tells_free f) up ∙ ap (λ (b : Bool). if b then Some (offers f) else None) (same_forest f))

taken-if : (k j f : ℕ) (b : Bool) → (k == j) ≡ b → taken_by f (Some j) k ≡ (if b then Some (chooses f) else None)
taken-if k j f b e = ap (λ (c : Bool). if c then Some (chooses f) else None) e

pub taken-some : (f : ℕ) (child : Option ℕ) (k : ℕ) (x : Wire) → taken_by f child k ≡ Some x → child ≡ Some k
taken-some f None k x e = absurd cc
taken-some f (Some j) k x e = elim (cases_eq k j) [
  | inl same ↦ ap (λ (n : ℕ). Some n) (sym same)
  | inr other ↦
      let test : (k == j) ≡ false = grind (arith, nat_tests) in
      let none : None ≡ Some x = sym (taken-if k j f false test) ∙ e in absurd cc
]

taken-is : (f : ℕ) (child : Option ℕ) (k : ℕ) → child ≡ Some k → taken_by f child k ≡ Some (chooses f)
taken-is f child k is = ap (λ (c : Option ℕ). taken_by f c k) is ∙ taken-if k k f true (same_forest k)

-- a payload at one port
one-port : (n f j k : ℕ) → j < n → at_port (slice_set (nothing n) j (Some (chooses f))) k ≡ taken_by f (Some j) k
one-port n f j k below = elim (cases_eq k j) [
  | inl same ↦
      subst (λ (i : ℕ). at_port (slice_set (nothing n) j (Some (chooses f))) i ≡ taken_by f (Some j) i) (sym same)
      (get_or-set_same (nothing n) j (Some (chooses f)) None
      (let size : length (nothing {M = Wire} n) ≡ n = length-replicate n None in omega (arith, size, below))
      ∙ sym (taken-if j j f true (same_forest j)))
  | inr other ↦
      get_or-set_other (nothing n) j k (Some (chooses f)) None other ∙ at_port-nothing n k
      ∙ sym (taken-if k j f false (let test : (k == j) ≡ false = grind (arith, nat_tests) in test))
]

told_taken-map : (f n : ℕ) (child : Option ℕ) (port : ℕ → ℕ) (ws : List ℕ) → length ws ≡ n → ((k : ℕ) → child ≡ Some k → k < n) →
    ((k : ℕ) → k < length ws → port (get_or ws k 0) ≡ k) → told_taken n f child ≡ map (λ w. taken_by f child (port w)) ws
told_taken-map f n None port ws size within place = ap (λ (m : ℕ). nothing m) (sym size) ∙ same-for_all None ws
told_taken-map f n (Some j) port ws size within place =
    let out : List (Option Wire) = slice_set (nothing n) j (Some (chooses f)) in
    let many : length out ≡ n = length-set (nothing n) j (Some (chooses f)) ∙ length-replicate n None in
    ext_get_or None out (map (λ w. taken_by f (Some j) (port w)) ws) (many ∙ (sym size ∙ sym (length-map ws (λ w. taken_by f (Some j) (port w)))))
    (λ k h. let below : k < length ws = omega (arith, many, size, h) in
    one-port n f j k (within j refl)
    ∙ (ap (taken_by f (Some j)) (sym (place k below))
    ∙ sym (get_or-map (λ w. taken_by f (Some j) (port w)) ws k 0 None below)))

-- who takes a child, and who doesn't
takes-some : (b : Bool) (partner came : Option ℕ) (k : ℕ) → (if b then unless_matched partner came else None) ≡ Some k →
    (b ≡ true) × (partner ≡ None) × (came ≡ Some k)
takes-some true None came k e = (refl, refl, e)
takes-some true (Some j) came k e = absurd cc
takes-some false partner came k e = absurd cc

takes-is : (b : Bool) (partner came : Option ℕ) → b ≡ true → partner ≡ None → (if b then unless_matched partner came else None) ≡ came
takes-is true None came t free = refl
takes-is true (Some j) came t free = absurd cc
takes-is false partner came t free = absurd cc

or-cases : (a b x : Option ℕ) (k : ℕ) → option_or (option_or a b) x ≡ Some k → (a ≡ Some k) ⊎ ((b ≡ Some k) ⊎ (x ≡ Some k))
or-cases (Some j) b x k e = inl e
or-cases None (Some j) x k e = inr (inl e)
or-cases None None x k e = inr (inr e)

or-first : (a b x : Option ℕ) (k : ℕ) → a ≡ Some k → option_or (option_or a b) x ≡ Some k
or-first (Some j) b x k e = e
or-first None b x k e = absurd cc

or-second : (a b x : Option ℕ) (k : ℕ) → a ≡ None → b ≡ Some k → option_or (option_or a b) x ≡ Some k
or-second None (Some j) x k free e = e
or-second None None x k free e = absurd cc
or-second (Some j) b x k free e = absurd cc

or-third : (a b x : Option ℕ) (k : ℕ) → a ≡ None → b ≡ None → x ≡ Some k → option_or (option_or a b) x ≡ Some k
or-third None None x k free none e = e
or-third None (Some j) x k free none e = absurd cc
or-third (Some j) b x k free none e = absurd cc

pub none-or-some : (x : Option ℕ) → (x ≡ None) ⊎ ((k : ℕ) × (x ≡ Some k))
none-or-some None = inl refl
none-or-some (Some k) = inr (k, refl)

-- The turn of colour c in forest f, which begins after pulse p.
module _ (net : Net) (ok : IsNetwork net) (f c p : ℕ) (in_range : f < forest_count_of net) (low : c < 3) (e : p ≡ 12 + (f * 6 + c * 2)) where
  abbrev pub before : ℕ → Option ℕ
  before v = (at net ok (suc p) v).0.beside

  -- a node of the colouring, which stays
  abbrev node : ℕ → Node
  node v = state_while_reducing net 10 v

  abbrev pub child : ℕ → Option ℕ
  child v = takes (node v) (before v) f c (first_came (inbox_from net (at net ok (suc p)) v))

  abbrev pub after : ℕ → Option ℕ
  after v = (at net ok (suc (suc (suc p))) v).0.beside

  first : (v : ℕ) → IsVertex net v →
      at net ok (suc p) v ≡ beside_of (node v) (offered (node v) (option_or (at net ok p v).0.beside (first_came (inbox_from net (at net ok p) v))) f)
  first v is_vertex =
      let q : ℕ = p - 12 in
      let inbox : List (Option Wire) = inbox_from net (at net ok p) v in
      let even : q % 2 ≡ 0 = ap (λ (n : ℕ). n % 2) (let same : q ≡ (f * 3 + c) * 2 + 0 = omega (arith, e) in same)
      ∙ mod-mul-add (f * 3 + c) 2 0 (omega arith) in
      let forest : q / 6 ≡ f = ap (λ (n : ℕ). n / 6) (let same : q ≡ f * 6 + c * 2 = omega (arith, e) in same) ∙ div-mul-add f 6 (c * 2) (omega (arith, low)) in
      at-turn net ok p v is_vertex (omega (arith, e))
      ∙ ap (beside_of (node v)) (turn-even (node v) (at net ok p v).0.beside q inbox even
      ∙ ap (offered (node v) (option_or (at net ok p v).0.beside (first_came inbox))) forest)

  second : (v : ℕ) → IsVertex net v → at net ok (suc (suc p)) v ≡ beside_of (node v) (took (node v) (before v) f (child v))
  second v is_vertex =
      let q : ℕ = suc p - 12 in
      let odd : q % 2 ≡ 1 = ap (λ (n : ℕ). n % 2) (let same : q ≡ (f * 3 + c) * 2 + 1 = omega (arith, e) in same) ∙ mod-mul-add (f * 3 + c) 2 1 (omega arith) in
      let place : q ≡ f * 6 + (c * 2 + 1) = omega (arith, e) in
      let forest : q / 6 ≡ f = ap (λ (n : ℕ). n / 6) place ∙ div-mul-add f 6 (c * 2 + 1) (omega (arith, low)) in
      let is_colour : q % 6 / 2 ≡ c = ap (λ (n : ℕ). n % 6 / 2) place ∙ (ap (λ (n : ℕ). n / 2) (mod-mul-add f 6 (c * 2 + 1) (omega (arith, low))) ∙
      div-mul-add c 2 1 (omega arith)) in
      let inbox : List (Option Wire) = inbox_from net (at net ok (suc p)) v in
      at-turn net ok (suc p) v is_vertex (omega (arith, e))
      ∙ ap (beside_of (node v)) (turn-odd (node v) (before v) q inbox odd
      ∙ (ap (λ (g : ℕ). took (node v) (before v) g (takes (node v) (before v) g (q % 6 / 2) (first_came inbox))) forest
      ∙ ap (λ (d : ℕ). took (node v) (before v) f (takes (node v) (before v) f d (first_came inbox))) is_colour))

  third : (v : ℕ) → IsVertex net v → after v ≡ option_or (option_or (before v) (child v)) (first_came (inbox_from net (at net ok (suc (suc p))) v))
  third v is_vertex =
      let q : ℕ = suc (suc p) - 12 in
      let even : q % 2 ≡ 0 = ap (λ (n : ℕ). n % 2) (let same : q ≡ (f * 3 + c + 1) * 2 + 0 = omega (arith, e) in same)
      ∙ mod-mul-add (f * 3 + c + 1) 2 0 (omega arith) in
      let inbox : List (Option Wire) = inbox_from net (at net ok (suc (suc p))) v in
      ap (λ (next : Both Node (Option ℕ) × List (Option Wire)). next.0.beside) (at-turn net ok (suc (suc p)) v is_vertex (omega (arith, e)))
      ∙ (ap (λ (next : Option ℕ × List (Option Wire)). next.0) (turn-even (node v) (at net ok (suc (suc p)) v).0.beside q inbox even)
      ∙ ap (λ (next : Both Node (Option ℕ) × List (Option Wire)). option_or next.0.beside (first_came inbox)) (second v is_vertex))

  -- what is told at the first pulse, and what comes at the second
  pub told1 : (v : ℕ) → IsVertex net v → (at net ok (suc p) v).1 ≡ map (λ w. offer_by f (before v) (role_of net v w)) (neighbours net v)
  told1 v is_vertex =
      subst (λ (next : Both Node (Option ℕ) × List (Option Wire)). next.1 ≡ told_free next.0.beside f (node v).roles) (sym (first v is_vertex)) refl
      ∙ told_free-map f (before v) (role_of net v) (neighbours net v)

  came2 : (v : ℕ) → IsVertex net v → inbox_from net (at net ok (suc p)) v ≡ map (λ w. offer_by f (before w) (role_of net w v)) (neighbours net v)
  came2 v is_vertex = inbox_is net ok (at net ok (suc p)) (λ w u. offer_by f (before w) (role_of net w u)) told1 v is_vertex

  has_colour : (v : ℕ) → slice_index (node v).colours f ≡ colour net f v
  has_colour v = in_forest net (λ g. (stages net g 10).0 v) f in_range ∙ stages_are_three net f v

  chose : (v k : ℕ) → IsVertex net v → child v ≡ Some k → (before v ≡ None) × (colour net f v ≡ c) × (k < degree_of net v) ×
      (before (neighbour_of net v k) ≡ None) × (role_of net (neighbour_of net v k) v ≡ Up f)
  chose v k is_vertex is =
      let s : Node = node v in
      let facts = takes-some (is_turn s f c) (before v) (first_came (inbox_from net (at net ok (suc p)) v)) k is in
      let test : (slice_index s.colours f == c) ≡ true = (and_parts (nat_lt f s.sizes.forests) (slice_index s.colours f == c) facts.0).1 in
      let own : slice_index s.colours f ≡ c = grind (arith, nat_tests) in
      let comes = first-comes (λ w. offer_by f (before w) (role_of net w v)) (neighbours net v) 0 k (ap first_came (sym (came2 v is_vertex)) ∙ facts.2) in
      let same : comes.0 ≡ k = omega (arith, comes.1) in
      let there : offer_by f (before (neighbour_of net v k)) (role_of net (neighbour_of net v k) v) ≡ Some comes.2.payload =
      subst (λ (j : ℕ). offer_by f (before (neighbour_of net v j)) (role_of net (neighbour_of net v j) v) ≡ Some comes.2.payload) same comes.2.came in
      let offers = offer-some f (before (neighbour_of net v k)) (role_of net (neighbour_of net v k) v) comes.2.payload there in
      (facts.1, sym (has_colour v) ∙ own, omega (arith, comes.2.below, same), offers.0, offers.1)

  has-some : (v k : ℕ) → IsVertex net v → before v ≡ None → colour net f v ≡ c → k < degree_of net v → before (neighbour_of net v k) ≡ None →
      role_of net (neighbour_of net v k) v ≡ Up f → child v ≡ None → ⊥
  has-some v k is_vertex free own below child_free up none =
      let s : Node = node v in
      let is : slice_index s.colours f ≡ c = has_colour v ∙ own in
      let one : nat_lt f s.sizes.forests ≡ true = lt-ltb f s.sizes.forests (in_range) in
      let other : (slice_index s.colours f == c) ≡ true = grind (arith, nat_tests) in
      let turn : is_turn s f c ≡ true = ap (λ (b : Bool). b && (slice_index s.colours f == c)) one ∙ other in
      let nobody : first_came (inbox_from net (at net ok (suc p)) v) ≡ None =
      sym (takes-is (is_turn s f c) (before v) (first_came (inbox_from net (at net ok (suc p)) v)) turn free) ∙ none in
      comes-none (λ w. offer_by f (before w) (role_of net w v)) (neighbours net v) 0 k (offers f) below
      (offer-is f (before (neighbour_of net v k)) (role_of net (neighbour_of net v k) v) child_free up) (ap first_came (sym (came2 v is_vertex)) ∙ nobody)

  -- what is told at the second pulse, and what comes after it
  pub told2 : (v : ℕ) → IsVertex net v → (at net ok (suc (suc p)) v).1 ≡ map (λ w. taken_by f (child v) (port_to net v w)) (neighbours net v)
  told2 v is_vertex =
      let many : ports (node v) ≡ degree_of net v = length-map (neighbours net v) (role_of net v) in
      ap (λ (next : Both Node (Option ℕ) × List (Option Wire)). next.1) (second v is_vertex)
      ∙ (ap (λ (n : ℕ). told_taken n f (child v)) many
      ∙ told_taken-map f (degree_of net v) (child v) (port_to net v) (neighbours net v) refl (λ k is. (chose v k is_vertex is).2)
      (λ k below. sym (ap (λ u. port_to net u (neighbour_of net v k)) (at-back_port net ok v k is_vertex below))
      ∙ back-of-back_port net ok v k is_vertex below))

  came3 : (v : ℕ) → IsVertex net v → inbox_from net (at net ok (suc (suc p))) v ≡ map (λ w. taken_by f (child w) (port_to net w v)) (neighbours net v)
  came3 v is_vertex = inbox_is net ok (at net ok (suc (suc p))) (λ w u. taken_by f (child w) (port_to net w u)) told2 v is_vertex

  came-from : (v k : ℕ) → IsVertex net v → first_came (inbox_from net (at net ok (suc (suc p))) v) ≡ Some k →
      (k < degree_of net v) × (child (neighbour_of net v k) ≡ Some (port_to net (neighbour_of net v k) v))
  came-from v k is_vertex is =
      let comes = first-comes (λ w. taken_by f (child w) (port_to net w v)) (neighbours net v) 0 k (ap first_came (sym (came3 v is_vertex)) ∙ is) in
      let same : comes.0 ≡ k = omega (arith, comes.1) in
      let there : taken_by f (child (neighbour_of net v k)) (port_to net (neighbour_of net v k) v) ≡ Some comes.2.payload =
      subst (λ (j : ℕ). taken_by f (child (neighbour_of net v j)) (port_to net (neighbour_of net v j) v) ≡ Some comes.2.payload) same comes.2.came in
      (omega (arith, comes.2.below, same), taken-some f (child (neighbour_of net v k)) (port_to net (neighbour_of net v k) v) comes.2.payload there)

  is-taken : (v k : ℕ) → IsVertex net v → before v ≡ None → child v ≡ None → k < degree_of net v →
      child (neighbour_of net v k) ≡ Some (port_to net (neighbour_of net v k) v) →
      (j : ℕ) × (j < degree_of net v) × (child (neighbour_of net v j) ≡ Some (port_to net (neighbour_of net v j) v)) × (after v ≡ Some j)
  is-taken v k is_vertex free none below is =
      let came : Option ℕ = first_came (inbox_from net (at net ok (suc (suc p))) v) in
      elim (none-or-some came) [
        | inl nobody ↦ absurd (comes-none (λ w. taken_by f (child w) (port_to net w v)) (neighbours net v) 0 k (chooses f) below
            (taken-is f (child (neighbour_of net v k)) (port_to net (neighbour_of net v k) v) is) (ap first_came (sym (came3 v is_vertex)) ∙ nobody))
        | inr somebody ↦
            let from = came-from v somebody.0 is_vertex somebody.1 in
            (somebody.0, from.0, from.1, third v is_vertex ∙ or-third (before v) (child v) came somebody.0 free none somebody.1)
      ]

  pub one_turn : Turn net f c before child after
  one_turn = record {
    chosen = chose;
    some = has-some;
    stays = λ v k is_vertex is. third v is_vertex ∙ or-first (before v) (child v) _ k is;
    takes = λ v k is_vertex is. third v is_vertex ∙ or-second (before v) (child v) _ k (chose v k is_vertex is).0 is;
    taken = is-taken;
    by = λ v k is_vertex is.
        elim (or-cases (before v) (child v) (first_came (inbox_from net (at net ok (suc (suc p))) v)) k (sym (third v is_vertex) ∙ is)) [
          | inl was ↦ inl was
          | inr side ↦ elim side [
            | inl took ↦ inr (inl took)
            | inr came ↦ inr (inr (came-from v k is_vertex came))
          ]
        ];
  }
