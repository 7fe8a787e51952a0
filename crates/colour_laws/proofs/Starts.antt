-- The first two pulses: numbering the ports.
use Rattle.std.proofs.Common.{◌≡◌, ◌≢◌, ℕ, zero, suc, ◌+◌, ◌<◌, ◌==◌, true, false, List, [], ◌∷◌, ◌++◌, length, refl, ap, sym, ◌∙◌, arith, get_or, inl, inr}
use Rattle.std.specs.Prelude.{if◌then◌else◌, map, not, replicate, Option, Some, None, Ok, nat_lt, count_by}
use Rattle.std.specs.List.{range_with_len}
use Rattle.std.proofs.lemmas.Bool.Decides.{nat_tests}
use Rattle.std.proofs.lemmas.Bool.{cases_order, lt-ltb, le-ltb}
use Rattle.interference.specs.Net.{Net, IsNetwork, IsVertex, bars_of, id_of, neighbours, degree_of, neighbour_of, forest_count_of, place_of, span_of}
use Rattle.node_api.specs.Program.{own_of, sizes_of}
use Rattle.node_api.proofs.Runs.{node_at-none}
use Rattle.colour_rules.specs.declared.payload.Payload.{Payload}
use Rattle.colour_rules.specs.declared.payload.Payload.TheVariants.{Hello}
use Rattle.forests.specs.declared.numbering.Role.{Role}
use Rattle.forests.specs.declared.numbering.Role.TheVariants.{Unknown, Up}
use Rattle.std.specs.FinSet.{contains}
use Rattle.colour_base.proofs.LeastKnown.{least-same}
use Rattle.forest_merge.specs.Free.{least_free_colour}
use Rattle.colour_rules.specs.Node.{Node, made, last, up_to}
use Rattle.colour_rules.proofs.Barring.{contains-up_to_low}
use Rattle.colour_rules.specs.Refusals.{ports_refusal, port_rule, own_rule, ids_in}
use Rattle.colour_rules.specs.Program.{colouring, next, oriented_slot, tells_label, role_after_seed, all_labelled, tells_colour, with_orient}
use Rattle.colour_rules.specs.declared.phase.Phase.TheVariants.{Orient, Seed}
use Rattle.node_api.proofs.Outboxes.{same-for_all}
use Rattle.colour_laws.specs.Colours.{colours, colours_after, is_barred}
use Rattle.colour_laws.proofs.Expected.{barred_of, stages, by_forest, state_while_reducing, tells, IsForest, IsOriented, Fresh}
use Rattle.forests.specs.Forests.{role_of, role_by, number, up}
use Rattle.node_api.proofs.Inboxes.{map-members}
use Rattle.std.proofs.lemmas.Simd.{map-map}
use Rattle.colour_laws.proofs.Forests.{role_by-is}
use Rattle.colour_laws.proofs.Ports.{accepted, ports_none}
use Rattle.colour_laws.proofs.Stands.{at, HoldsAfter, NothingRefused, stand_next, fine_next, comes}
use Rattle.colour_laws.proofs.Runs.{all_fine, colour_is}

-- before the first forest a node has the least colour that isn't barred
first_is : (net : Net) (v : ℕ) → least_free_colour (span_of net) (contains (up_to (span_of net) (bars_of net v))) ≡ colours_after net 0 v
unfolding colours_after
first_is net v =
    least-same (λ c. not (contains (up_to (span_of net) (bars_of net v)) c)) (λ c. not (is_barred net v c)) (suc (span_of net))
    (λ c below. ap not (contains-up_to_low (span_of net) (bars_of net v) c (omega arith)))

abbrev pub orient : Net → ℕ → ℕ → Role
orient net v w = if nat_lt (id_of net v) (id_of net w) then Up (number net v w) else Unknown

abbrev pub greeted : Net → ℕ → Node
greeted net v = made (own_of net v)

abbrev pub oriented_node : Net → ℕ → Node
oriented_node net v = record (greeted net v) { roles = map (orient net v) (neighbours net v) }

abbrev pub hello : Net → ℕ → ℕ → Option Payload
hello net v w = Some (Hello (id_of net v))

ids_of-map : (id : ℕ → ℕ) (ws : List ℕ) → ids_in (map (λ w. Some (Hello (id w))) ws) ≡ map id ws
ids_of-map id [] = refl
ids_of-map id (w ∷ ws) = ap (λ rest. id w ∷ rest) (ids_of-map id ws)

hellos_fine : (node : Node) (id : ℕ → ℕ) (ws : List ℕ) → ((k : ℕ) → k < length ws → id (get_or ws k 0) ≢ node.id) → (earlier : List ℕ) →
    Fresh earlier (map id ws) → (port : ℕ) → ports_refusal node Orient port earlier (map (λ w. Unknown) ws) (map (λ w. Some (Hello (id w))) ws) ≡ None
hellos_fine node id [] other earlier fresh port = refl
hellos_fine node id (w ∷ ws) other earlier fresh port =
    let e : (id w == node.id) ≡ false = (let ne : id w ≢ node.id = other 0 (omega arith) in grind (arith, nat_tests)) in
    rw (e, fresh.0) (hellos_fine node id ws (λ k h. other (suc k) (omega arith)) (earlier ++ (id w ∷ [])) fresh.1 (suc port))

same-range : (x a n : ℕ) → replicate n x ≡ map (λ (f : ℕ). x) (range_with_len a n)
same-range x a zero = refl
same-range x a (suc n) = ap (λ rest. x ∷ rest) (same-range x (a + 1) n)

labelled-map : (role : ℕ → Role) (slot : ℕ → Option Payload) (ws : List ℕ)
    → all_labelled (map role ws) (map slot ws) ≡ map (λ w. role_after_seed (role w) (slot w)) ws
labelled-map role slot [] = refl
labelled-map role slot (w ∷ ws) = ap (λ rest. role_after_seed (role w) (slot w) ∷ rest) (labelled-map role slot ws)

module _ (net : Net) (ok : IsNetwork net) (forest : IsForest net) (start : IsOriented net) where
  pub greets : HoldsAfter net 0 (greeted net) (hello net)
  greets v is_vertex = node_at-none colouring net v ∙ ap (λ (out : List (Option Payload)). (greeted net v, out)) (hello-all v)
    where
      hello-all : (v : ℕ) → map (λ (role : Role). Some (Hello (id_of net v))) (replicate (degree_of net v) Unknown) ≡ map (hello net v) (neighbours net v)
      hello-all v = ap (map (λ (role : Role). Some (Hello (id_of net v)))) (same-for_all Unknown (neighbours net v)) ∙
          map-map (λ (role : Role). Some (Hello (id_of net v))) (λ w. Unknown) (neighbours net v)

  oriented-map : (v : ℕ) → IsVertex net v → map (oriented_slot (id_of net v) (map (id_of net) (neighbours net v)))
      (map (λ w. hello net w v) (neighbours net v)) ≡ map (orient net v) (neighbours net v)
  oriented-map v is_vertex =
      map-map (oriented_slot (id_of net v) (map (id_of net) (neighbours net v))) (λ w. hello net w v) (neighbours net v)
      ∙ map-members (λ w. role_by (id_of net v) (map (id_of net) (neighbours net v)) (id_of net w)) (orient net v) (neighbours net v)
      (λ k h. role_by-is net ok v k is_vertex h)

  own_orient : (v : ℕ) → IsVertex net v → own_rule (greeted net v) Orient (map (λ w. hello net w v) (neighbours net v)) ≡ None
  own_orient v is_vertex = rw (
    ids_of-map (id_of net) (neighbours net v),
    le-ltb (forest_count_of net) (count_by (nat_lt (id_of net v)) (map (id_of net) (neighbours net v))) (start.few_higher v is_vertex),
  ) refl

  orient_next : (v : ℕ) → IsVertex net v → next (greeted net v) 1 (map (λ w. hello net w v) (neighbours net v)) ≡ Ok (
    oriented_node net v,
    map (λ w. tells_label (orient net v w)) (neighbours net v),
  )
  orient_next v is_vertex =
      let inbox : List (Option Payload) = map (λ w. hello net w v) (neighbours net v) in
      let ports : ports_refusal (greeted net v) Orient 0 [] (replicate (degree_of net v) Unknown) inbox ≡ None =
      ap (λ (roles : List Role). ports_refusal (greeted net v) Orient 0 [] roles inbox) (same-for_all Unknown (neighbours net v))
      ∙ hellos_fine (greeted net v) (id_of net) (neighbours net v) (λ k h. start.not_own v k is_vertex h) [] (start.fresh v is_vertex) 0 in
      accepted (greeted net v) 1 Orient inbox refl ports (own_orient v is_vertex)
      ∙ ap (λ (roles : List Role). Ok (with_orient (greeted net v) inbox roles)) (ap (λ (ids : List ℕ). map (oriented_slot (id_of net v) ids) inbox)
      (ids_of-map (id_of net) (neighbours net v)) ∙ oriented-map v is_vertex)
      ∙ ap (λ (out : List (Option Payload)). Ok (oriented_node net v, out)) (map-map tells_label (orient net v) (neighbours net v))

  abbrev pub tells_one : ℕ → ℕ → Option Payload
  tells_one v w = tells_label (orient net v w)

  pub oriented_stand : HoldsAfter net 1 (oriented_node net) tells_one
  oriented_stand = stand_next net 0 (oriented_node net) tells_one (λ v is_vertex. comes net ok 0 (greeted net) (hello net) greets 1 refl v is_vertex ∙
      orient_next v is_vertex)

  -- a port of higher identifier hears nothing, one of lower hears its label
  abbrev Seeds : ℕ → ℕ → Type 0
  Seeds v w = ((earlier : List ℕ) → port_rule (oriented_node net v) earlier Seed (orient net v w) (tells_label (orient net w v)) ≡ None) ×
      (role_after_seed (orient net v w) (tells_label (orient net w v)) ≡ role_of net v w)

  seeds : (v k : ℕ) → IsVertex net v → k < degree_of net v → Seeds v (neighbour_of net v k)
  unfolding role_of
  seeds v k is_vertex h =
      let w : ℕ = neighbour_of net v k in
      elim (cases_order (id_of net v) (id_of net w)) [
        | inl same ↦ absurd (start.not_own v k is_vertex h (sym same))
        | inr side ↦ elim side [
          | inl lower ↦ let a : nat_lt (id_of net v) (id_of net w) ≡ true = lt-ltb (id_of net v) (id_of net w) lower in
              let b : nat_lt (id_of net w) (id_of net v) ≡ false = le-ltb (id_of net w) (id_of net v) (omega arith) in rw (a, b) ((λ earlier. refl), refl)
          | inr higher ↦ let a : nat_lt (id_of net v) (id_of net w) ≡ false = le-ltb (id_of net v) (id_of net w) (omega arith) in
              let b : nat_lt (id_of net w) (id_of net v) ≡ true = lt-ltb (id_of net w) (id_of net v) higher in
              let c : nat_lt (place_of v (up net w)) (forest_count_of net) ≡ true =
              lt-ltb (place_of v (up net w)) (forest_count_of net) (forest.down v k (place_of v (up net w)) is_vertex h (rw a refl)).1 in
              rw (a, b) ((λ earlier. rw c refl), refl)
        ]
      ]

  seed_next : (v : ℕ) → IsVertex net v → next (oriented_node net v) 2 (map (λ w. tells_one w v) (neighbours net v)) ≡ Ok (
    state_while_reducing net 0 v,
    map (tells net 0 v) (neighbours net v),
  )
  unfolding stages
  seed_next v is_vertex =
      let first : ℕ = least_free_colour (span_of net) (contains (barred_of net v)) in
      let inbox : List (Option Payload) = map (λ w. tells_label (orient net w v)) (neighbours net v) in
      let ports : ports_refusal (oriented_node net v) Seed 0 [] (map (orient net v) (neighbours net v)) inbox ≡ None =
      ports_none (oriented_node net v) Seed (orient net v) (λ w. tells_label (orient net w v)) (neighbours net v)
      (λ k h earlier. (seeds v k is_vertex h).0 earlier) 0 [] in
      let roles : all_labelled (map (orient net v) (neighbours net v)) inbox ≡ map (role_of net v) (neighbours net v) =
      labelled-map (orient net v) (λ w. tells_label (orient net w v)) (neighbours net v) ∙
      map-members (λ w. role_after_seed (orient net v w) (tells_label (orient net w v))) (role_of net v) (neighbours net v)
      (λ k h. (seeds v k is_vertex h).1) in
      accepted (oriented_node net v) 2 Seed inbox refl ports refl
      ∙ (ap (λ (rs : List Role). Ok (
        record (oriented_node net v) { roles = rs; colours = replicate (forest_count_of net) (id_of net v) },
        map (tells_colour (replicate (forest_count_of net) (id_of net v))) rs,
      )) roles
      ∙ (ap (λ (cs : List ℕ). Ok (
        record (oriented_node net v) { roles = map (role_of net v) (neighbours net v); colours = cs },
        map (tells_colour cs) (map (role_of net v) (neighbours net v)),
      )) (same-range (id_of net v) 0 (forest_count_of net))
      ∙ (ap (λ (bs : List ℕ). Ok (
        record (state_while_reducing net 0 v) { before = bs; merged = first },
        map (tells_colour (by_forest net (λ f. (stages net f 0).0 v))) (map (role_of net v) (neighbours net v)),
      )) (same-range 0 0 (forest_count_of net))
      ∙ (ap (λ (m : ℕ). Ok (
        record (state_while_reducing net 0 v) { merged = m },
        map (tells_colour (by_forest net (λ f. (stages net f 0).0 v))) (map (role_of net v) (neighbours net v)),
      )) (first_is net v)
      ∙ ap (λ (out : List (Option Payload)). Ok (state_while_reducing net 0 v, out)) (map-map (tells_colour (by_forest net (λ f. (stages net f 0).0 v)))
      (role_of net v) (neighbours net v))))))

  pub seeded : HoldsAfter net 2 (state_while_reducing net 0) (tells net 0)
  seeded = stand_next net 1 (state_while_reducing net 0) (tells net 0) (λ v is_vertex. comes net ok 1 (oriented_node net) tells_one oriented_stand 2 refl v
      is_vertex ∙ seed_next v is_vertex)

  pub fine0 : NothingRefused net 0
  fine0 = fine_next net 0 (oriented_node net) tells_one (λ v is_vertex. comes net ok 0 (greeted net) (hello net) greets 1 refl v is_vertex ∙
      orient_next v is_vertex)

  pub fine1 : NothingRefused net 1
  fine1 = fine_next net 1 (state_while_reducing net 0) (tells net 0) (λ v is_vertex. comes net ok 1 (oriented_node net) tells_one oriented_stand 2 refl v
      is_vertex ∙ seed_next v is_vertex)

  -- In the synchronous run nothing is refused, and it ends with the definition's colours.
  pub fine_all : (p : ℕ) → p < last (sizes_of net) → NothingRefused net p
  fine_all zero h = fine0
  fine_all (suc zero) h = fine1
  fine_all (suc (suc p)) h = all_fine net ok forest seeded (suc (suc p)) (omega arith) h

  pub colour_at_last : (v : ℕ) → IsVertex net v → ((at net (last (sizes_of net)) v).0.merged ≡ colours net v) ×
      ((at net (last (sizes_of net)) v).1 ≡ map (λ w. None) (neighbours net v))
  colour_at_last = colour_is net ok forest seeded
