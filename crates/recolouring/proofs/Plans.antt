-- The colours that are chosen anew in a sweep: a node's is free of what is barred at it and of what neighbours of the classes before
-- have. From this, and from the order of the classes, it follows what they are.
use Rattle.std.proofs.Common.{◌≡◌, ◌≢◌, ℕ, zero, suc, ◌+◌, ◌-◌, ◌*◌, ◌%◌, ◌<◌, ◌≤◌, ◌++◌, ◌==◌, ◌&&◌, Bool, true, false, List, [], ◌∷◌, length, ap, sym}
use Rattle.std.proofs.Common.{◌∙◌, arith, get_or, inl, inr, subst, refl}
use Rattle.std.specs.Prelude.{◌⊎◌, if◌then◌else◌, map, not, nat_le, nat_lt, Contains}
use Rattle.std.specs.FinSet.{FinSet, contains}
use Rattle.std.specs.Ordering.{nat_cmp}
use Rattle.std.proofs.lemmas.Bool.Decides.{nat_tests}
use Rattle.std.proofs.lemmas.Bool.{cases_order, le-ltb, or_cases, or_left, or_right, not-false, cases_Bool, not-true, and_parts}
use Rattle.std.proofs.lemmas.List.{get_or-map, length-append, length-map}
use Rattle.std.proofs.lemmas.List.Elements.{Contains-get_or}
use Rattle.colour_base.proofs.LeastLemmas.{least-at_most, least-first, least-found}
use Rattle.forest_merge.specs.Free.{is_among, least_free_colour}
use Rattle.forest_merge.specs.declared.chosen.TheConstants.{COLOURS}
use Rattle.forest_merge.proofs.Taken.{HasFree-few, is_among-at}
use Rattle.graph_limits.specs.declared.limits.TheConstants.{MAX_BARS}
use Rattle.interference.specs.declared.limits.TheConstants.{MAX_DEGREE}
use Rattle.interference.specs.Net.{Net, IsBarred, IsNetwork, IsVertex, bars_of, bar_count_of, degree_of, neighbours, neighbour_of}
use Rattle.interference.specs.Net.{greatest_bars_of, greatest_degree_of, span_of}
use Rattle.interference.proofs.Neighbours.{bars-within, both-ways, greatest_bars-reached, greatest_bars-within, greatest_degree-within, port-of}
use Rattle.colour_rules.proofs.Barring.{contains-up_to, contains-up_to_low}
use Rattle.colour_rules.specs.Node.{up_to}
use Rattle.node_api.specs.Boxes.{nothing}
use Rattle.node_api.specs.Program.{sizes_of}
use Rattle.colour_laws.proofs.Expected.{IsForest}
use Rattle.colour_laws.proofs.Forests.{has_forest}
use Rattle.recolouring.specs.Knowing as order
use Rattle.recolouring.specs.Knowing.{has_bars, is_taken, raised, rises}
use Rattle.recolouring.specs.ProgramLaws.{at, cut}
use Rattle.recolouring.proofs.Orders.{place-apart, rank, rank-less, rank-more}
use Rattle.recolouring.proofs.Raising.{raised-below, raised-free, raised-high, raised-low}
use Rattle.recolouring.proofs.Run as run

among-left : (xs ys : List ℕ) (c : ℕ) → is_among xs c ≡ true → is_among (xs ++ ys) c ≡ true
among-left [] ys c e = absurd cc
among-left (x ∷ xs) ys c e = elim (or_cases (x == c) (is_among xs c) e) [
  | inl here ↦ or_left (x == c) (is_among (xs ++ ys) c) here
  | inr there ↦ or_right (x == c) (is_among (xs ++ ys) c) (among-left xs ys c there)
]

among-right : (xs ys : List ℕ) (c : ℕ) → is_among ys c ≡ true → is_among (xs ++ ys) c ≡ true
among-right [] ys c e = e
among-right (x ∷ xs) ys c e = or_right (x == c) (is_among (xs ++ ys) c) (among-right xs ys c e)

pub among-Contains : (xs : List ℕ) (c : ℕ) → is_among xs c ≡ true → Contains xs c
among-Contains [] c e = absurd cc
among-Contains (x ∷ xs) c e = elim (or_cases (x == c) (is_among xs c) e) [
  | inl here ↦ (0, omega arith, (let test : (x == c) ≡ true = here in let same : x ≡ c = grind (arith, nat_tests) in same))
  | inr there ↦ let more = among-Contains xs c there in (suc more.0, omega (arith, more.1), more.2)
]

-- the places of a sweep, by whether the network has bars
rise-place : (barring : Bool) (sweep greatest c : ℕ) → rises barring sweep ≡ true → order.place barring sweep greatest c ≡ greatest - c
rise-place true sweep greatest c e = ap (λ (b : Bool). if b then greatest - c else c) e
rise-place false sweep greatest c e = absurd cc

fall-place : (barring : Bool) (sweep greatest c : ℕ) → barring ≡ true → rises barring sweep ≡ false → order.place barring sweep greatest c ≡ c
fall-place true sweep greatest c is e = ap (λ (b : Bool). if b then greatest - c else c) e
fall-place false sweep greatest c is e = absurd cc

pub from-greatest : (barring : Bool) (sweep greatest c : ℕ) → barring ≡ false → sweep % 3 ≡ 0 → order.place barring sweep greatest c ≡ greatest - c
from-greatest true sweep greatest c is e = absurd cc
from-greatest false sweep greatest c is e =
    ap (λ (n : ℕ). if n == 0 then greatest - c else order.place_by_halves (n - 1) greatest c) e

-- whether a network has bars
lt-ltb-none : (n : ℕ) → n ≡ 0 → nat_lt 0 n ≡ false
lt-ltb-none n e = le-ltb 0 n (omega (arith, e))

no-length : (xs : List ℕ) → length xs ≡ 0 → xs ≡ []
no-length [] e = refl
no-length (x ∷ xs) e = absurd (omega (arith, e))

module _ (net : Net) (ok : IsNetwork net) where
  without-bars : has_bars (sizes_of net) ≡ false → (w : ℕ) → IsVertex net w → bars_of net w ≡ []
  without-bars none w is_vertex =
      let test : nat_lt 0 (greatest_bars_of net) ≡ false = none in
      let zero_bars : greatest_bars_of net ≡ 0 = grind (arith, nat_tests) in
      let bound : bar_count_of net w ≤ greatest_bars_of net = bars-within net ok w in
      no-length (bars_of net w) (omega (arith, zero_bars, bound))

  pub no-bars-then : ((w : ℕ) → IsVertex net w → bars_of net w ≡ []) → (v : ℕ) → IsVertex net v → has_bars (sizes_of net) ≡ false
  no-bars-then none v is_vertex =
      let top = greatest_bars-reached net ok (omega (arith, is_vertex.0, is_vertex.1)) in
      let empty : bar_count_of net top.0 ≡ 0 = ap (λ (bars : List ℕ). length bars) (none top.0 top.1) in
      lt-ltb-none (greatest_bars_of net) (omega (arith, top.2, empty))

module _ (net : Net) (ok : IsNetwork net) (k : ℕ) (low : (v : ℕ) → IsVertex net v → run.old net ok k v ≤ span_of net)
    (differ : (v w : ℕ) → IsVertex net v → Contains (neighbours net v) w → run.old net ok k v ≢ run.old net ok k w)
    (allowed : (v : ℕ) → IsVertex net v → IsBarred net v (run.old net ok k v) → ⊥)
    (quiet : (v : ℕ) → IsVertex net v → (at net ok (cut net ok + (k * (span_of net + 1) + 0)) v).1 ≡ nothing (degree_of net v)) where
  forest : IsForest net
  forest = has_forest net ok

  abbrev span : ℕ
  span = span_of net

  abbrev barring : Bool
  barring = has_bars (sizes_of net)

  -- the colour with which a node comes into the sweep, and the one that it chooses
  abbrev pub old : ℕ → ℕ
  old v = run.old net ok k v

  abbrev pub colour : ℕ → ℕ
  colour v = run.new net ok k v

  abbrev place : ℕ → ℕ
  place v = run.place net ok k v

  abbrev heard : ℕ → ℕ → FinSet nat_cmp
  heard q v = run.heard net ok k q v

  soon : (v : ℕ) → IsVertex net v → place v ≤ span
  soon v is_vertex = run.soon net ok k low quiet v is_vertex

  abbrev barred : ℕ → FinSet nat_cmp
  barred v = up_to span (bars_of net v)

  -- what is taken for a node when it chooses
  abbrev taken : ℕ → ℕ → Bool
  taken v = is_taken (heard (place v) v) (barred v)

  abbrev test : ℕ → ℕ → Bool
  test v c = not (taken v c)

  abbrev Before : ℕ → ℕ → Type 0
  Before v c = (j : ℕ) × (j < degree_of net v) × (place (neighbour_of net v j) < place v) × (colour (neighbour_of net v j) ≡ c)

  -- what a node has heard of is a neighbour's of a class before
  heard-by : (v c : ℕ) → IsVertex net v → contains (heard (place v) v) c ≡ true → Before v c
  heard-by v c is_vertex near = run.heard-from net ok k low quiet (place v) v c is_vertex (soon v is_vertex) near

  -- a colour that is taken is barred, or a neighbour's of a class before
  by : (v c : ℕ) → IsVertex net v → taken v c ≡ true → (is_among (bars_of net v) c ≡ true) ⊎ Before v c
  by v c is_vertex e =
      elim (or_cases (contains (heard (place v) v) c) (contains (barred v) c) e) [
        | inl near ↦ inr (heard-by v c is_vertex near)
        | inr held ↦ inl (and_parts (is_among (bars_of net v) c) (nat_le c span) (sym (contains-up_to span (bars_of net v) c) ∙ held)).0
      ]

  -- a colour is free if it isn't barred, and no neighbour of a class before has it
  free-if : (v c : ℕ) → IsVertex net v → (is_among (bars_of net v) c ≡ true → ⊥) → (Before v c → ⊥) → taken v c ≡ false
  free-if v c is_vertex no_bar no_neighbour = elim (cases_Bool (taken v c)) [
    | inr none ↦ none
    | inl is_so ↦ elim (by v c is_vertex is_so) [
      | inl held ↦ absurd (no_bar held)
      | inr there ↦ absurd (no_neighbour there)
    ]
  ]

  not-among : (v : ℕ) → IsVertex net v → is_among (bars_of net v) (old v) ≡ true → ⊥
  not-among v is_vertex held = allowed v is_vertex (among-Contains (bars_of net v) (old v) held)

  -- if the classes rise, the greatest is first, and no colour gets less
  module _ (rise : rises barring k ≡ true) where
    up-is : (v : ℕ) → IsVertex net v → colour v ≡ raised (heard (place v) v) (barred v) (old v) (span - old v) false
    up-is v is_vertex = run.raised-is net ok k low quiet rise v is_vertex

    down-from : (v : ℕ) → place v ≡ span - old v
    down-from v = rise-place barring k span (old v) rise

    up-low : (v : ℕ) → IsVertex net v → old v ≤ colour v
    up-low v is_vertex =
        let least = raised-low (heard (place v) v) (barred v) (old v) (span - old v) false in
        omega (arith, up-is v is_vertex, least)

    up-high : (v : ℕ) → IsVertex net v → colour v ≤ span
    up-high v is_vertex =
        let most = raised-high (heard (place v) v) (barred v) (old v) (span - old v) false in
        omega (arith, up-is v is_vertex, most, low v is_vertex)

    own-free : (v : ℕ) → IsVertex net v → taken v (old v) ≡ false
    own-free v is_vertex = free-if v (old v) is_vertex (not-among v is_vertex) (λ there.
        let w : ℕ = neighbour_of net v there.0 in
        let least : old w ≤ colour w = up-low w (ok.vertices v there.0 is_vertex there.1) in
        omega (arith, there.2, there.3, least, down-from v, down-from w, low v is_vertex))

    up-free : (v : ℕ) → IsVertex net v → taken v (colour v) ≡ false
    up-free v is_vertex =
        elim (raised-free (heard (place v) v) (barred v) (old v) (span - old v) false) [
          | inl same ↦ ap (taken v) (up-is v is_vertex ∙ same) ∙ own-free v is_vertex
          | inr none ↦ ap (taken v) (up-is v is_vertex) ∙ none
        ]

    up-most : (greatest : ℕ) → ((w : ℕ) → IsVertex net w → old w ≤ greatest) → (n v : ℕ) → IsVertex net v → place v < n → colour v ≤ greatest
    up-most greatest most zero v is_vertex h = absurd (omega (arith, h))
    up-most greatest most (suc n) v is_vertex h =
        elim (raised-below (heard (place v) v) (barred v) (old v) (span - old v) false) [
          | inl same ↦ omega (arith, up-is v is_vertex, same, most v is_vertex)
          | inr more ↦ elim more [
            | inl under ↦ absurd cc
            | inr above ↦
                let there = heard-by v above.0 is_vertex above.2 in
                let w : ℕ = neighbour_of net v there.0 in
                let bound : colour w ≤ greatest =
                up-most greatest most n w (ok.vertices v there.0 is_vertex there.1) (omega (arith, there.2, h)) in
                omega (arith, up-is v is_vertex, above.1, there.3, bound)
          ]
        ]

  -- if they don't, each chooses the least
  module _ (falls : rises barring k ≡ false) where
    is : (v : ℕ) → IsVertex net v → colour v ≡ least_free_colour span (taken v)
    is v is_vertex = run.least-is net ok k low quiet falls v is_vertex

    -- one of the first colours is left for it
    free : (v : ℕ) → IsVertex net v → (c : ℕ) × (c ≤ degree_of net v + bar_count_of net v) × (taken v c ≡ false)
    free v is_vertex =
        let near : List ℕ = map colour (neighbours net v) in
        let all : List ℕ = near ++ bars_of net v in
        let many : length all ≡ degree_of net v + bar_count_of net v =
        length-append near (bars_of net v) ∙ ap (λ (n : ℕ). n + length (bars_of net v)) (length-map (neighbours net v) colour) in
        let some = HasFree-few (degree_of net v + bar_count_of net v) all (omega (arith, many)) in
        let c : ℕ = some.0 in (
          c,
          some.1,
          free-if v c is_vertex
              (λ held. let wrong : true ≡ false = sym (among-right near (bars_of net v) c held) ∙ some.2 in cc)
              (λ there.
              let here : get_or near there.0 c ≡ c = get_or-map colour (neighbours net v) there.0 0 c there.1 ∙ there.3 in
              let within_it : there.0 < length near = omega (arith, there.1, length-map (neighbours net v) colour) in
              let wrong : true ≡ false = sym (among-left near (bars_of net v) c (is_among-at near there.0 c within_it here)) ∙ some.2 in
              cc),
        )

    pub within : (v : ℕ) → IsVertex net v → colour v ≤ degree_of net v + bar_count_of net v
    within v is_vertex =
        let some = free v is_vertex in
        let least : least_free_colour span (taken v) ≤ some.0 = least-at_most (test v) (suc span) some.0 (ap not some.2) in
        omega (arith, is v is_vertex, some.1, least)

    least-free : (v : ℕ) → IsVertex net v → taken v (colour v) ≡ false
    least-free v is_vertex =
        let some = free v is_vertex in
        let below : some.0 < suc span = omega (arith, some.1, forest.few v, forest.few_bars v) in
        ap (taken v) (is v is_vertex) ∙ not-true (taken v (least_free_colour span (taken v))) (least-found (test v) (suc span) some.0 below (ap not some.2))

    at-most : (v c : ℕ) → IsVertex net v → taken v c ≡ false → colour v ≤ c
    at-most v c is_vertex none =
        let least : least_free_colour span (taken v) ≤ c = least-at_most (test v) (suc span) c (ap not none) in
        omega (arith, is v is_vertex, least)

    pub lowest : (v c : ℕ) → IsVertex net v → c < colour v → (IsBarred net v c → ⊥) → (w : ℕ) × Contains (neighbours net v) w × (colour w ≡ c)
    lowest v c is_vertex less unbarred_there =
        let held : taken v c ≡ true = not-false (taken v c) (least-first (test v) (suc span) c (subst (λ (n : ℕ). c < n) (is v is_vertex) less)) in
        elim (by v c is_vertex held) [
          | inl bar ↦ absurd (unbarred_there (among-Contains (bars_of net v) c bar))
          | inr there ↦ (neighbour_of net v there.0, Contains-get_or (neighbours net v) there.0 0 there.1, there.3)
        ]

    -- with bars no colour gets greater
    no-rise-of : barring ≡ true → (n v : ℕ) → IsVertex net v → place v < n → colour v ≤ old v
    no-rise-of bars zero v is_vertex h = absurd (omega (arith, h))
    no-rise-of bars (suc n) v is_vertex h = at-most v (old v) is_vertex (free-if v (old v) is_vertex (not-among v is_vertex) (λ there.
        let w : ℕ = neighbour_of net v there.0 in
        let bound : colour w ≤ old w = no-rise-of bars n w (ok.vertices v there.0 is_vertex there.1) (omega (arith, there.2, h)) in
        omega (
          arith,
          there.2,
          there.3,
          bound,
          fall-place barring k span (old v) bars falls,
          fall-place barring k span (old w) bars falls,
        )))

    -- without bars a node's new colour is at most the number of the classes before its own
    module _ (none : (w : ℕ) → IsVertex net w → bars_of net w ≡ []) (greatest : ℕ) (most : (w : ℕ) → IsVertex net w → old w ≤ greatest) where
      no-bar : (v c : ℕ) → IsVertex net v → is_among (bars_of net v) c ≡ true → ⊥
      no-bar v c is_vertex held =
          let wrong : false ≡ true = ap (λ (bars : List ℕ). is_among bars c) (sym (none v is_vertex)) ∙ held in cc

      abbrev count : ℕ → ℕ
      count v = rank (run.place_of net ok k) (place v) (suc greatest)

      ranked : (n v : ℕ) → IsVertex net v → place v < n → colour v ≤ count v
      ranked zero v is_vertex h = absurd (omega (arith, h))
      ranked (suc n) v is_vertex h = at-most v (count v) is_vertex (free-if v (count v) is_vertex (no-bar v (count v) is_vertex) (λ there.
          let w : ℕ = neighbour_of net v there.0 in
          let inside : IsVertex net w = ok.vertices v there.0 is_vertex there.1 in
          let bound : colour w ≤ count w = ranked n w inside (omega (arith, there.2, h)) in
          let class : old w < suc greatest = (let it : old w ≤ greatest = most w inside in omega (arith, it)) in
          let fewer : suc (count w) ≤ count v =
          rank-more (run.place_of net ok k) (place w) (place v) (suc greatest) (old w) class (omega arith) there.2 in
          omega (arith, bound, fewer, there.3)))

      pub no_greater_free : (v : ℕ) → IsVertex net v → colour v ≤ greatest
      no_greater_free v is_vertex =
          let bound : colour v ≤ count v = ranked (suc (place v)) v is_vertex (omega arith) in
          let class : old v < suc greatest = (let it : old v ≤ greatest = most v is_vertex in omega (arith, it)) in
          let few_before : suc (count v) ≤ suc greatest =
          rank-less (run.place_of net ok k) (place v) (suc greatest) (old v) class (omega arith) in
          omega (arith, bound, few_before)

      -- from the greatest down it is at most as far from 0 as the old one from the greatest
      module _ (down : (v : ℕ) → place v ≡ span - old v) where
        mirrored : (n v : ℕ) → IsVertex net v → place v < n → colour v + old v ≤ greatest
        mirrored zero v is_vertex h = absurd (omega (arith, h))
        mirrored (suc n) v is_vertex h =
            let c : ℕ = greatest - old v in
            let top : old v ≤ greatest = most v is_vertex in
            let least : colour v ≤ c = at-most v c is_vertex (free-if v c is_vertex (no-bar v c is_vertex) (λ there.
            let w : ℕ = neighbour_of net v there.0 in
            let inside : IsVertex net w = ok.vertices v there.0 is_vertex there.1 in
            let bound : colour w + old w ≤ greatest = mirrored n w inside (omega (arith, there.2, h)) in
            omega (arith, there.2, there.3, bound, down v, down w, top, low v is_vertex))) in
            omega (arith, least, top)

        pub no_more : (v : ℕ) → IsVertex net v → colour v + old v ≤ greatest
        no_more v is_vertex = mirrored (suc (place v)) v is_vertex (omega arith)

  pub few : (v : ℕ) → degree_of net v + bar_count_of net v ≤ span
  few v = omega (arith, forest.few v, forest.few_bars v)

  -- in both kinds of sweeps a node's colour is free for it
  untaken : (v : ℕ) → IsVertex net v → taken v (colour v) ≡ false
  untaken v is_vertex = elim (cases_Bool (rises barring k)) [
    | inl rise ↦ up-free rise v is_vertex
    | inr falls ↦ least-free falls v is_vertex
  ]

  pub new-low : (v : ℕ) → IsVertex net v → colour v ≤ span
  new-low v is_vertex = elim (cases_Bool (rises barring k)) [
    | inl rise ↦ up-high rise v is_vertex
    | inr falls ↦ (let most : colour v ≤ degree_of net v + bar_count_of net v = within falls v is_vertex in omega (arith, most, few v))
  ]

  -- and none is above the greatest one before
  pub no_greater : (greatest : ℕ) → ((w : ℕ) → IsVertex net w → old w ≤ greatest) → (v : ℕ) → IsVertex net v → colour v ≤ greatest
  no_greater greatest most v is_vertex = elim (cases_Bool (rises barring k)) [
    | inl rise ↦ up-most rise greatest most (suc (place v)) v is_vertex (omega arith)
    | inr falls ↦ elim (cases_Bool barring) [
      | inl bars ↦
          let bound : colour v ≤ old v = no-rise-of falls bars (suc (place v)) v is_vertex (omega arith) in
          let top : old v ≤ greatest = most v is_vertex in
          omega (arith, bound, top)
      | inr none ↦ no_greater_free falls (without-bars net ok none) greatest most v is_vertex
    ]
  ]

  in_room : (v : ℕ) → IsVertex net v → colour v < COLOURS
  in_room v is_vertex =
      let most : greatest_degree_of net ≤ MAX_DEGREE = greatest_degree-within net ok in
      let bars : greatest_bars_of net ≤ MAX_BARS = greatest_bars-within net ok in
      omega (arith, new-low v is_vertex, most, bars)

  -- the colour of a neighbour of a class before is taken
  before-taken : (v j : ℕ) → IsVertex net v → j < degree_of net v → place (neighbour_of net v j) < place v →
      taken v (colour (neighbour_of net v j)) ≡ true
  before-taken v j is_vertex below less =
      let c : ℕ = colour (neighbour_of net v j) in
      or_left (contains (heard (place v) v) c) (contains (barred v) c)
      (run.heard-has net ok k low quiet (place v) v j is_vertex below (soon v is_vertex) less
      (in_room (neighbour_of net v j) (ok.vertices v j is_vertex below)))

  apart : (v j : ℕ) → IsVertex net v → j < degree_of net v → place (neighbour_of net v j) < place v → colour v ≢ colour (neighbour_of net v j)
  apart v j is_vertex below less same =
      let wrong : false ≡ true = sym (untaken v is_vertex) ∙ (ap (taken v) same ∙ before-taken v j is_vertex below less) in cc

  pub proper : (v w : ℕ) → IsVertex net v → Contains (neighbours net v) w → colour v ≢ colour w
  proper v w is_vertex near same =
      let port = port-of net ok v w near in
      let inside : IsVertex net w = subst (IsVertex net) port.2 (ok.vertices v port.0 is_vertex port.1) in
      let back = port-of net ok w v (both-ways net ok v w is_vertex near) in
      elim (cases_order (place v) (place w)) [
        | inl equal ↦ differ v w is_vertex near (place-apart barring k span (old v) (old w) (low v is_vertex) (low w inside) equal)
        | inr side ↦ elim side [
          | inl less ↦ apart w back.0 inside back.1 (subst (λ (u : ℕ). place u < place w) (sym back.2) less) (sym same ∙ ap colour (sym back.2))
          | inr more ↦ apart v port.0 is_vertex port.1 (subst (λ (u : ℕ). place u < place v) (sym port.2) more) (same ∙ ap colour (sym port.2))
        ]
      ]

  pub unbarred : (v : ℕ) → IsVertex net v → IsBarred net v (colour v) → ⊥
  unbarred v is_vertex bar =
      let among : is_among (bars_of net v) (colour v) ≡ true = is_among-at (bars_of net v) bar.0 (colour v) bar.1 bar.2 in
      let held : contains (barred v) (colour v) ≡ true = contains-up_to_low span (bars_of net v) (colour v) (new-low v is_vertex) ∙ among in
      let wrong : false ≡ true = sym (untaken v is_vertex)
      ∙ or_right (contains (heard (place v) v) (colour v)) (contains (barred v) (colour v)) held in
      cc
