-- The run of the classes that choose anew in a sweep: who has chosen after each pulse, and what each has heard of.
use Rattle.std.proofs.Common.{◌≡◌, ℕ, zero, suc, ◌+◌, ◌-◌, ◌*◌, ◌%◌, ◌<◌, ◌≤◌, ◌==◌, ◌&&◌, Bool, true, false, List, length, refl, ap, sym}
use Rattle.std.proofs.Common.{◌∙◌, arith, subst, inl, inr}
use Rattle.std.specs.Prelude.{if◌then◌else◌, replicate, nat_lt, Option, Some, None}
use Rattle.std.specs.Ordering.{nat_cmp}
use Rattle.std.specs.FinSet.{FinSet, contains, contains-empty, empty}
use Rattle.std.proofs.lemmas.Bool.Decides.{nat_tests}
use Rattle.std.proofs.lemmas.Bool.{lt-ltb, eq-eqb, ne_eqb, false_from_ne_true, and_parts, and_from}
use Rattle.std.proofs.lemmas.List.{get_or-replicate}
use native.Mathlib.Decide.{dec_lt}
use Prim.{yes, no}
use Rattle.forest_merge.specs.Free.{least_free_colour}
use Rattle.forest_merge.specs.declared.chosen.TheConstants.{COLOURS}
use Rattle.interference.specs.Net.{Net, IsNetwork, IsVertex, bars_of, degree_of, neighbour_of, port_to, span_of}
use Rattle.node_api.specs.Boxes.{at_port, nothing}
use Rattle.node_api.specs.Program.{sizes_of}
use Rattle.node_api.specs.Run.{inbox_from}
use Rattle.node_api.proofs.Inboxes.{at_port-inbox}
use Rattle.node_api.proofs.Runs.{length-inbox, node_at-ports}
use Rattle.node_api.proofs.Slots.{at_port-nothing}
use Rattle.followed.specs.Followed.{Both, beside_of}
use Rattle.followed.specs.RunLaws.{kept_beside}
use Rattle.colour_rules.proofs.KeptPorts.{keeps}
use Rattle.colour_rules.specs.Node.{Node, ports, up_to}
use Rattle.colour_rules.specs.Program.{colouring}
use Rattle.recolouring.specs.Knowing as order
use Rattle.recolouring.specs.Knowing.{Recoloured, Wire, choice, class_next, colour_after, entering, has_bars, is_taken, is_turn, raised, ready}
use Rattle.recolouring.specs.Knowing.{recoloured, recolours, rises, says, told, with_anew}
use Rattle.recolouring.specs.ProgramLaws.{at, at-sweep, class-of, coloured, cut, has_barring, has_greatest, ready-as, recolours_cut}
use Rattle.recolouring.proofs.Orders.{place-low}
use Rattle.recolouring.proofs.Coming.{anew-from, anew-has, anew-keeps, number}

turn-then : (s : Recoloured) (n q : ℕ) → is_turn s n q ≡ true → order.place s.barring n s.greatest s.before ≡ q
turn-then s n q e = let test : (order.place s.barring n s.greatest s.before == q) ≡ true = e in grind (arith, nat_tests)

turn-if : (s : Recoloured) (n q : ℕ) → order.place s.barring n s.greatest s.before ≡ q → is_turn s n q ≡ true
turn-if s n q e = eq-eqb (order.place s.barring n s.greatest s.before) q e

past-all : {M : Type 0} (n k : ℕ) (x : Option M) → n ≤ k → at_port (replicate n x) k ≡ None
past-all zero k x h = refl
past-all (suc n) zero x h = absurd (omega arith)
past-all (suc n) (suc k) x h = past-all n k x (omega arith)

told-some : (node : Node) (k : ℕ) (b : Bool) (c : ℕ) (x : Wire) → at_port (told node b c) k ≡ Some x → (b ≡ true) × (says c ≡ x)
told-some node k true c x e = elim (dec_lt k (ports node)) [
  | yes below ↦
      let here : Some (says c) ≡ Some x = sym (get_or-replicate (ports node) k (Some (says c)) None below) ∙ e in
      (refl, cc)
  | no past ↦
      let none : None ≡ Some x = sym (past-all (ports node) k (Some (says c)) (omega arith)) ∙ e in
      absurd cc
]
told-some node k false c x e = let none : None ≡ Some x = sym (at_port-nothing (ports node) k) ∙ e in absurd cc

module _ (net : Net) (ok : IsNetwork net) (k : ℕ) where
  -- the pulses of the sweeps before this one, and the last pulse before it
  abbrev past : ℕ
  past = k * (span_of net + 1)

  abbrev pub start : ℕ
  start = cut net ok + past

  -- what a node has beside its first colour when pulse q of the sweep begins
  abbrev pub mine : ℕ → ℕ → Recoloured
  mine q v = ready (coloured net ok v) (at net ok (cut net ok + (past + q)) v).0.beside (past + q)

  abbrev inbox : ℕ → ℕ → List (Option Wire)
  inbox q v = inbox_from net (at net ok (cut net ok + (past + q))) v

  -- what it has heard of when the next class chooses
  abbrev pub heard : ℕ → ℕ → FinSet nat_cmp
  heard q v = with_anew (mine q v).chosen (inbox q v)

  abbrev turn : ℕ → ℕ → Bool
  turn q v = is_turn (mine q v) k q

  -- the colour with which a node comes into the sweep
  abbrev pub old : ℕ → ℕ
  old v = (mine 0 v).before

  more : (q v : ℕ) → IsVertex net v → q ≤ span_of net →
      at net ok (cut net ok + (past + suc q)) v ≡ beside_of (coloured net ok v) (class_next (coloured net ok v) (mine q v) k q (inbox q v))
  more q v is_vertex h =
      subst (λ (n : ℕ). at net ok n v ≡ beside_of (coloured net ok v) (class_next (coloured net ok v) (mine q v) k q (inbox q v)))
      (let e : suc (cut net ok + (past + q)) ≡ cut net ok + (past + suc q) = omega arith in e)
      (at-sweep net ok k q v is_vertex h)

  beside-more : (q v : ℕ) → IsVertex net v → q ≤ span_of net → (at net ok (cut net ok + (past + suc q)) v).0.beside
      ≡ recoloured (mine q v) k (heard q v) (turn q v)
  beside-more q v is_vertex h = ap (λ (next : Both Node Recoloured × List (Option Wire)). next.0.beside) (more q v is_vertex h)

  -- within the sweep nothing begins anew
  within : (q v : ℕ) → suc q ≤ span_of net → mine (suc q) v ≡ (at net ok (cut net ok + (past + suc q)) v).0.beside
  within q v h =
      let s : Recoloured = (at net ok (cut net ok + (past + suc q)) v).0.beside in
      let class : (past + suc q) % (s.greatest + 1) ≡ suc q =
      ap (λ (n : ℕ). (past + suc q) % (n + 1)) (has_greatest net ok (cut net ok + (past + suc q)) v) ∙ class-of (span_of net) k (suc q) h in
      ap (λ (n : ℕ). if n == 0 then entering (coloured net ok v) s (past + suc q) else s) class
      ∙ ap (λ (b : Bool). if b then entering (coloured net ok v) s (past + suc q) else s) (ne_eqb (suc q) 0 (λ none. omega (arith, none)))

  chosen-more : (q v : ℕ) → IsVertex net v → suc q ≤ span_of net → (mine (suc q) v).chosen ≡ heard q v
  chosen-more q v is_vertex h = ap (λ (s : Recoloured). s.chosen) (within q v h ∙ beside-more q v is_vertex (omega arith))

  old-more : (q v : ℕ) → IsVertex net v → suc q ≤ span_of net → (mine (suc q) v).before ≡ (mine q v).before
  old-more q v is_vertex h = ap (λ (s : Recoloured). s.before) (within q v h ∙ beside-more q v is_vertex (omega arith))

  old-is : (q v : ℕ) → IsVertex net v → q ≤ span_of net → (mine q v).before ≡ old v
  old-is zero v is_vertex h = refl
  old-is (suc q) v is_vertex h = old-more q v is_vertex h ∙ old-is q v is_vertex (omega arith)

  -- a sweep begins with the colours to which the one before led
  pub kept-colour : (q v : ℕ) → (mine q v).colour ≡ (at net ok (cut net ok + (past + q)) v).0.beside.colour
  kept-colour q v =
      let s : Recoloured = (at net ok (cut net ok + (past + q)) v).0.beside in
      ready-as (λ t. t.colour) ((past + q) % (s.greatest + 1) == 0) s (entering (coloured net ok v) s (past + q)) refl

  colour-more : (q v : ℕ) → IsVertex net v → q ≤ span_of net → (mine (suc q) v).colour ≡ colour_after (mine q v) k (heard q v) (turn q v)
  colour-more q v is_vertex h = kept-colour (suc q) v ∙ ap (λ (t : Recoloured). t.colour) (beside-more q v is_vertex h)

  sent : (q v : ℕ) → IsVertex net v → q ≤ span_of net → (at net ok (cut net ok + (past + suc q)) v).1
      ≡ told (coloured net ok v) (turn q v && nat_lt q (mine q v).greatest) (colour_after (mine q v) k (heard q v) (turn q v))
  sent q v is_vertex h = ap (λ (next : Both Node Recoloured × List (Option Wire)). next.1) (more q v is_vertex h)

  greatest_is : (q v : ℕ) → (mine q v).greatest ≡ span_of net
  greatest_is q v =
      let p : ℕ = cut net ok + (past + q) in
      let s : Recoloured = (at net ok p v).0.beside in
      ready-as (λ t. t.greatest) ((past + q) % (s.greatest + 1) == 0) s (entering (coloured net ok v) s (past + q)) refl
      ∙ has_greatest net ok p v

  barred_is : (q v : ℕ) → (mine q v).barred ≡ up_to (span_of net) (bars_of net v)
  barred_is q v =
      let p : ℕ = cut net ok + (past + q) in
      let s : Recoloured = (at net ok p v).0.beside in
      ready-as (λ t. t.barred) ((past + q) % (s.greatest + 1) == 0) s (entering (coloured net ok v) s (past + q)) refl
      ∙ kept_beside colouring recolours recolours_cut net ok (λ t. t.barred)
      (λ node t q inbox. ready-as (λ r. r.barred) (q % (t.greatest + 1) == 0) t (entering node t q) refl) p v

  barring_is : (q v : ℕ) → (mine q v).barring ≡ has_bars (sizes_of net)
  barring_is q v =
      let p : ℕ = cut net ok + (past + q) in
      let s : Recoloured = (at net ok p v).0.beside in
      ready-as (λ t. t.barring) ((past + q) % (s.greatest + 1) == 0) s (entering (coloured net ok v) s (past + q)) refl
      ∙ has_barring net ok p v

  -- as the sweep begins
  pub entered : (v : ℕ) → mine 0 v ≡ entering (coloured net ok v) (at net ok (cut net ok + (past + 0)) v).0.beside (past + 0)
  entered v =
      let s : Recoloured = (at net ok (cut net ok + (past + 0)) v).0.beside in
      let class : (past + 0) % (s.greatest + 1) ≡ 0 =
      ap (λ (n : ℕ). (past + 0) % (n + 1)) (has_greatest net ok (cut net ok + (past + 0)) v) ∙ class-of (span_of net) k 0 (omega arith) in
      ap (λ (n : ℕ). if n == 0 then entering (coloured net ok v) s (past + 0) else s) class

  first : (v : ℕ) → (mine 0 v).chosen ≡ empty
  first v = ap (λ (s : Recoloured). s.chosen) (entered v)

  slot : (q v j : ℕ) → j < degree_of net v → at_port (inbox q v) j
      ≡ at_port (at net ok (cut net ok + (past + q)) (neighbour_of net v j)).1 (port_to net (neighbour_of net v j) v)
  slot q v j below =
      at_port-inbox net (at net ok (cut net ok + (past + q))) v j below

  -- the pulse of a colour, and so of a node
  abbrev pub place_of : ℕ → ℕ
  place_of c = order.place (has_bars (sizes_of net)) k (span_of net) c

  abbrev pub place : ℕ → ℕ
  place v = place_of (old v)

  knows-place : (q v : ℕ) → IsVertex net v → q ≤ span_of net
      → order.place (mine q v).barring k (mine q v).greatest (mine q v).before ≡ place v
  knows-place q v is_vertex h =
      ap (λ (b : Bool). order.place b k (mine q v).greatest (mine q v).before) (barring_is q v)
      ∙ (ap (λ (n : ℕ). order.place (has_bars (sizes_of net)) k n (mine q v).before) (greatest_is q v)
      ∙ ap place_of (old-is q v is_vertex h))

  -- a node's turn is that of its colour
  turn-is : (q v : ℕ) → IsVertex net v → q ≤ span_of net → turn q v ≡ true → place v ≡ q
  turn-is q v is_vertex h e = sym (knows-place q v is_vertex h) ∙ turn-then (mine q v) k q e

  its-turn : (q v : ℕ) → IsVertex net v → q ≤ span_of net → place v ≡ q → turn q v ≡ true
  its-turn q v is_vertex h e = turn-if (mine q v) k q (knows-place q v is_vertex h ∙ e)

  -- the colour that a node chooses anew
  abbrev pub new : ℕ → ℕ
  new v = (mine (suc (place v)) v).colour

  -- if the colours with which they come are within the span, and nothing is on its way
  module _ (low : (v : ℕ) → IsVertex net v → old v ≤ span_of net)
      (quiet : (v : ℕ) → IsVertex net v → (at net ok (cut net ok + (past + 0)) v).1 ≡ nothing (degree_of net v)) where
    -- a node has its pulse in the sweep
    pub soon : (v : ℕ) → IsVertex net v → place v ≤ span_of net
    soon v is_vertex = place-low (has_bars (sizes_of net)) k (span_of net) (old v) (low v is_vertex)

    pub new-is : (v : ℕ) → IsVertex net v → new v ≡ choice (mine (place v) v) k (heard (place v) v)
    new-is v is_vertex =
        let q : ℕ = place v in
        colour-more q v is_vertex (soon v is_vertex)
        ∙ ap (λ (b : Bool). if b then choice (mine q v) k (heard q v) else (mine q v).colour)
        (its-turn q v is_vertex (soon v is_vertex) refl)

    -- the least free colour, if the classes don't rise in the sweep; else the colour to which the node rises
    pub least-is : rises (has_bars (sizes_of net)) k ≡ false → (v : ℕ) → IsVertex net v
        → new v ≡ least_free_colour (span_of net) (is_taken (heard (place v) v) (up_to (span_of net) (bars_of net v)))
    least-is falls v is_vertex =
        let q : ℕ = place v in
        let s : Recoloured = mine q v in
        let raising : ℕ = raised (heard q v) s.barred s.before (s.greatest - s.before) false in
        new-is v is_vertex
        ∙ (ap (λ (b : Bool). if b then raising else least_free_colour s.greatest (is_taken (heard q v) s.barred))
        (ap (λ (b : Bool). rises b k) (barring_is q v) ∙ falls)
        ∙ (ap (λ (n : ℕ). least_free_colour n (is_taken (heard q v) s.barred)) (greatest_is q v)
        ∙ ap (λ (barred : FinSet nat_cmp). least_free_colour (span_of net) (is_taken (heard q v) barred)) (barred_is q v)))

    pub raised-is : rises (has_bars (sizes_of net)) k ≡ true → (v : ℕ) → IsVertex net v
        → new v ≡ raised (heard (place v) v) (up_to (span_of net) (bars_of net v)) (old v) (span_of net - old v) false
    raised-is rise v is_vertex =
        let q : ℕ = place v in
        let s : Recoloured = mine q v in
        let least : ℕ = least_free_colour s.greatest (is_taken (heard q v) s.barred) in
        new-is v is_vertex
        ∙ (ap (λ (b : Bool). if b then raised (heard q v) s.barred s.before (s.greatest - s.before) false else least)
        (ap (λ (b : Bool). rises b k) (barring_is q v) ∙ rise)
        ∙ (ap (λ (n : ℕ). raised (heard q v) s.barred s.before (n - s.before) false) (greatest_is q v)
        ∙ (ap (λ (barred : FinSet nat_cmp). raised (heard q v) barred s.before (span_of net - s.before) false) (barred_is q v)
        ∙ ap (λ (c : ℕ). raised (heard q v) (up_to (span_of net) (bars_of net v)) c (span_of net - c) false)
        (old-is q v is_vertex (soon v is_vertex)))))

    -- it keeps it
    stays : (d v : ℕ) → IsVertex net v → suc (place v) + d ≤ suc (span_of net) → (mine (suc (place v) + d) v).colour ≡ new v
    stays zero v is_vertex h = ap (λ (n : ℕ). (mine n v).colour) (let e : suc (place v) + 0 ≡ suc (place v) = omega arith in e)
    stays (suc d) v is_vertex h =
        let q : ℕ = suc (place v) + d in
        let early : q ≤ span_of net = omega (arith, h) in
        let over : turn q v ≡ false = false_from_ne_true (turn q v)
        (λ is. let when : place v ≡ q = turn-is q v is_vertex early is in omega (arith, when)) in
        ap (λ (n : ℕ). (mine n v).colour) (let e : suc (place v) + suc d ≡ suc q = omega arith in e)
        ∙ (colour-more q v is_vertex early
        ∙ (ap (λ (b : Bool). if b then choice (mine q v) k (heard q v) else (mine q v).colour) over
        ∙ stays d v is_vertex (omega (arith, early))))

    pub later : (q v : ℕ) → IsVertex net v → q ≤ suc (span_of net) → place v < q → (mine q v).colour ≡ new v
    later q v is_vertex h past_it =
        let same : q ≡ suc (place v) + (q - suc (place v)) = omega (arith, past_it) in
        ap (λ (n : ℕ). (mine n v).colour) same ∙ stays (q - suc (place v)) v is_vertex (omega (arith, h, same))

    -- with it a node ends the sweep
    pub last-colour : (v : ℕ) → IsVertex net v → (at net ok (cut net ok + (past + suc (span_of net))) v).0.beside.colour ≡ new v
    last-colour v is_vertex =
        let early : place v ≤ span_of net = soon v is_vertex in
        sym (kept-colour (suc (span_of net)) v) ∙ later (suc (span_of net)) v is_vertex (omega arith) (omega (arith, early))

    -- what comes was chosen by a neighbour at the pulse before
    came : (q v j c : ℕ) → IsVertex net v → q ≤ span_of net → j < degree_of net v → at_port (inbox (suc q) v) j ≡ Some (says c) →
        (place (neighbour_of net v j) ≡ q) × (new (neighbour_of net v j) ≡ c)
    came q v j c is_vertex h below is =
        let w : ℕ = neighbour_of net v j in
        let inside : IsVertex net w = ok.vertices v j is_vertex below in
        let colour : ℕ = colour_after (mine q w) k (heard q w) (turn q w) in
        let there : at_port (told (coloured net ok w) (turn q w && nat_lt q (mine q w).greatest) colour) (port_to net w v) ≡ Some (says c) =
        sym (ap (λ (out : List (Option Wire)). at_port out (port_to net w v)) (sent q w inside h)) ∙ (sym (slot (suc q) v j below) ∙ is) in
        let facts = told-some (coloured net ok w) (port_to net w v) (turn q w && nat_lt q (mine q w).greatest) colour (says c) there in
        let when : place w ≡ q = turn-is q w inside h (and_parts (turn q w) (nat_lt q (mine q w).greatest) facts.0).0 in
        let same : colour ≡ c = ap number facts.1 in
        (when, sym (later (suc q) w inside (omega (arith, h)) (omega (arith, when))) ∙ (colour-more q w inside h ∙ same))

    first_none : (v j c : ℕ) → IsVertex net v → j < degree_of net v → at_port (inbox 0 v) j ≡ Some (says c) → ⊥
    first_none v j c is_vertex below is =
        let w : ℕ = neighbour_of net v j in
        let none : None ≡ Some (says c) =
        sym (ap (λ (out : List (Option Wire)). at_port out (port_to net w v)) (quiet w (ok.vertices v j is_vertex below))
        ∙ at_port-nothing (degree_of net w) (port_to net w v))
        ∙ (sym (slot 0 v j below) ∙ is) in
        cc

    -- what a node has heard of is the new colour of a neighbour of a class before
    pub heard-from : (q v c : ℕ) → IsVertex net v → q ≤ span_of net → contains (heard q v) c ≡ true →
        (j : ℕ) × (j < degree_of net v) × (place (neighbour_of net v j) < q) × (new (neighbour_of net v j) ≡ c)
    heard-from zero v c is_vertex h is = elim (anew-from (inbox 0 v) (mine 0 v).chosen 0 c is) [
      | inl before ↦
          let none : false ≡ true = sym (contains-empty nat_cmp c) ∙ (ap (λ (set : FinSet nat_cmp). contains set c) (sym (first v)) ∙ before) in
          absurd cc
      | inr there ↦
          let below : there.0 < degree_of net v = omega (arith, there.1, length-inbox net (at net ok (cut net ok + (past + 0))) v) in
          absurd (first_none v there.0 c is_vertex below there.2)
    ]
    heard-from (suc q) v c is_vertex h is = elim (anew-from (inbox (suc q) v) (mine (suc q) v).chosen 0 c is) [
      | inl before ↦
          let there = heard-from q v c is_vertex (omega (arith, h))
          (ap (λ (set : FinSet nat_cmp). contains set c) (sym (chosen-more q v is_vertex h)) ∙ before) in
          (there.0, there.1, omega (arith, there.2), there.3)
      | inr now ↦
          let below : now.0 < degree_of net v = omega (arith, now.1, length-inbox net (at net ok (cut net ok + (past + suc q))) v) in
          let facts = came q v now.0 c is_vertex (omega (arith, h)) below now.2 in
          (now.0, below, omega (arith, facts.0), facts.1)
    ]

    -- and of all of them
    pub heard-has : (q v j : ℕ) → IsVertex net v → j < degree_of net v → q ≤ span_of net → place (neighbour_of net v j) < q →
        new (neighbour_of net v j) < COLOURS → contains (heard q v) (new (neighbour_of net v j)) ≡ true
    heard-has zero v j is_vertex below h past_it few =
        absurd (omega (arith, past_it))
    heard-has (suc q) v j is_vertex below h past_it few =
        let w : ℕ = neighbour_of net v j in
        let inside : IsVertex net w = ok.vertices v j is_vertex below in
        elim (dec_lt (place w) q) [
          | yes before ↦
              anew-keeps (inbox (suc q) v) (mine (suc q) v).chosen 0 (new w)
              (ap (λ (set : FinSet nat_cmp). contains set (new w)) (chosen-more q v is_vertex h)
              ∙ heard-has q v j is_vertex below (omega (arith, h)) before few)
          | no now ↦
              let when : place w ≡ q = omega (arith, past_it) in
              let turns : turn q w ≡ true = its-turn q w inside (omega (arith, h)) when in
              let early : nat_lt q (mine q w).greatest ≡ true = lt-ltb q (mine q w).greatest (omega (arith, h, greatest_is q w)) in
              let colour : ℕ = colour_after (mine q w) k (heard q w) (turn q w) in
              let is : colour ≡ new w =
              sym (colour-more q w inside (omega (arith, h))) ∙ later (suc q) w inside (omega (arith, h)) (omega (arith, when)) in
              let many : ports (coloured net ok w) ≡ degree_of net w = (node_at-ports colouring net keeps (cut net ok) w).0 in
              let port : port_to net w v < degree_of net w = ok.symmetric v j is_vertex below in
              let here : at_port (inbox (suc q) v) j ≡ Some (says (new w)) =
              slot (suc q) v j below
              ∙ (ap (λ (out : List (Option Wire)). at_port out (port_to net w v)) (sent q w inside (omega (arith, h))
              ∙ (ap (λ (b : Bool). told (coloured net ok w) b colour) (and_from (turn q w) (nat_lt q (mine q w).greatest) turns early)
              ∙ ap (told (coloured net ok w) true) is))
              ∙ get_or-replicate (ports (coloured net ok w)) (port_to net w v) (Some (says (new w))) None (omega (arith, many, port))) in
              let size : j < length (inbox (suc q) v) =
              omega (arith, below, length-inbox net (at net ok (cut net ok + (past + suc q))) v) in
              anew-has (inbox (suc q) v) (mine (suc q) v).chosen 0 j (new w) size few here
        ]
