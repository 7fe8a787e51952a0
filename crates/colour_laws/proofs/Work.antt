-- One pulse of work on the colours of the forests, pulses 3 to 12. The plan: a parent tells its colour
-- and nobody else does (told_down, told_up); that is fine at its port (port_fine); in each forest the
-- parent's colour is what came (parent_is); so the colours are the definition's (colours_are).
use Rattle.std.proofs.Common.{◌≡◌, ℕ, zero, suc, ◌+◌, ◌<◌, ◌==◌, false, List, [], refl, ap, sym, ◌∙◌, arith}
use Rattle.std.specs.Prelude.{map, Option, Some, None, Ok}
use Rattle.std.specs.List.{range_with_len}
use Rattle.std.proofs.lemmas.Bool.Decides.{nat_tests}
use Rattle.interference.specs.Net.{Net, IsNetwork, IsVertex, degree_of, neighbours, neighbour_of, forest_count_of}
use Rattle.node_api.specs.Program.{sizes_of}
use Rattle.node_api.specs.Run.{inbox_from}
use Rattle.colour_base.specs.Forest.{at_parent, colour_of}
use Rattle.colour_rules.specs.declared.payload.Payload.{Payload}
use Rattle.colour_rules.specs.declared.payload.Payload.TheVariants.{Colour}
use Rattle.forests.specs.declared.numbering.Role.{Role}
use Rattle.forests.specs.declared.numbering.Role.TheVariants.{Unknown, Up, Down}
use Rattle.colour_rules.specs.Node.{Node, reduction_of}
use Rattle.colour_rules.specs.Table.{is_above}
use Rattle.colour_rules.specs.Refusals.{port_rule, ports_refusal, own_rule}
use Rattle.colour_rules.specs.Program.{work_of, next, is_last, is_up, colour_in, from_parent, next_colours, next_kept, tells_colour, with_colours}
use Rattle.colour_rules.specs.declared.phase.Phase.TheVariants.{Work}
use Rattle.colour_laws.proofs.Expected.{stages, by_forest, state_while_reducing, tells, IsForest}
use Rattle.forests.specs.Forests.{role_of, parent}
use Rattle.node_api.proofs.Inboxes.{map-members, inbox_is}
use Rattle.colour_laws.proofs.Lists.{range-members, any-none}
use Rattle.colour_laws.proofs.Sound.{Sound, sound}
use Rattle.colour_laws.proofs.Ports.{ports_none, from_nobody, from_somebody, port_up, same_forest, in_forest, phase_work, sent_if, no_own_rule, accepted}
use Rattle.colour_rules.proofs.Working.{up-is}

-- the tenth of these pulses is the last
last-is : (q : ℕ) → q < 10 → is_last (reduction_of (q + 3)) ≡ (suc q == 10)
last-is zero h = refl
last-is (suc zero) h = refl
last-is (suc (suc zero)) h = refl
last-is (suc (suc (suc zero))) h = refl
last-is (suc (suc (suc (suc zero)))) h = refl
last-is (suc (suc (suc (suc (suc zero))))) h = refl
last-is (suc (suc (suc (suc (suc (suc zero)))))) h = refl
last-is (suc (suc (suc (suc (suc (suc (suc zero))))))) h = refl
last-is (suc (suc (suc (suc (suc (suc (suc (suc zero)))))))) h = refl
last-is (suc (suc (suc (suc (suc (suc (suc (suc (suc zero))))))))) h = refl
last-is (suc (suc (suc (suc (suc (suc (suc (suc (suc (suc q)))))))))) h = absurd (omega arith)

module _ (net : Net) (ok : IsNetwork net) (forest : IsForest net) (q : ℕ) (early : q < 10) where
  abbrev own : ℕ → ℕ → ℕ
  own f v = (stages net f q).0 v

  told : ℕ → ℕ → Option Payload
  told w v = tells_colour (by_forest net (λ f. own f w)) (role_of net w v)

  tells-told : (w v : ℕ) → tells net q w v ≡ told w v
  unfolding told
  tells-told w v = let e : (q == 10) ≡ false = grind (arith, nat_tests) in rw e refl

  module _ (v : ℕ) (is_vertex : IsVertex net v) where
    told_down : (w f : ℕ) → role_of net w v ≡ Down f → f < forest_count_of net → told w v ≡ Some (Colour (own f w))
    unfolding told
    told_down w f e h = ap (tells_colour (by_forest net (λ f. own f w))) e ∙ ap (λ c. Some (Colour c)) (in_forest net (λ f. own f w) f h)

    told_up : (w f : ℕ) → role_of net w v ≡ Up f → told w v ≡ None
    unfolding told
    told_up w f e = ap (tells_colour (by_forest net (λ f. own f w))) e

    port_fine : (k : ℕ) → k < degree_of net v → (earlier : List ℕ) (role : Role) → role_of net v (neighbour_of net v k) ≡ role →
        port_rule (state_while_reducing net q v) earlier (Work (reduction_of (q + 3))) role (told (neighbour_of net v k) v) ≡ None
    port_fine k h earlier Unknown e = absurd (forest.known v k is_vertex h e)
    port_fine k h earlier (Up f) e =
        let w : ℕ = neighbour_of net v k in
        let facts : (parent net f v ≡ Some w) × (role_of net w v ≡ Down f) × (f < forest_count_of net) = forest.up v k f is_vertex h e in
        let good : Sound net f q = sound net forest f q early in
        rw (told_down w f facts.1 facts.2) (port_up (state_while_reducing net q v) earlier (reduction_of (q + 3)) f (own f w) (good.below w)
        (λ same. good.proper v w facts.0 (sym (same ∙ in_forest net (λ g. own g v) f facts.2))))
    port_fine k h earlier (Down f) e =
        let none : told (neighbour_of net v k) v ≡ None = told_up (neighbour_of net v k) f (forest.down v k f is_vertex h e).0 in
        rw none refl

    -- what came from the parent in forest f, by whether there is one
    came_from : (f : ℕ) → f < forest_count_of net → (above : Option ℕ) → parent net f v ≡ above →
        from_parent f (map (role_of net v) (neighbours net v)) (map (λ w. told w v) (neighbours net v)) ≡ colour_of (own f) above
    came_from f h None e = from_nobody f (role_of net v) (λ w. told w v) (neighbours net v)
        (λ k below up. let there : Some (neighbour_of net v k) ≡ None =
        sym (forest.up v k f is_vertex below (up-is f (role_of net v (neighbour_of net v k)) up)).0 ∙ e in cc)
    came_from f h (Some w) e =
        let port = forest.above f v w is_vertex e in
        from_somebody f (role_of net v) (λ w. told w v) (Some (own f w)) (neighbours net v) port.0 port.1 (ap (is_up f) port.2 ∙ same_forest f)
        (λ k below up.
        let facts : (parent net f v ≡ Some (neighbour_of net v k)) × (role_of net (neighbour_of net v k) v ≡ Down f) × (f < forest_count_of net) =
        forest.up v k f is_vertex below (up-is f (role_of net v (neighbour_of net v k)) up) in
        let same : neighbour_of net v k ≡ w = (let a : Some (neighbour_of net v k) ≡ Some w = sym facts.0 ∙ e in cc) in
        ap colour_in (told_down (neighbour_of net v k) f facts.1 h) ∙ ap (λ (u : ℕ). Some (own f u)) same)

    parent_is : (f : ℕ) → f < forest_count_of net → from_parent f (map (role_of net v) (neighbours net v)) (map (λ w. told w v) (neighbours net v))
        ≡ at_parent (parent net f) (own f) v
    parent_is f h = came_from f h (parent net f v) refl

    inbox : List (Option Payload)
    inbox = map (λ w. told w v) (neighbours net v)

    colours_are : next_colours (state_while_reducing net q v) (reduction_of (q + 3)) inbox ≡ by_forest net (λ f. (stages net f (suc q)).0 v)
    unfolding inbox stages
    colours_are = range-members _ (λ f. (stages net f (suc q)).0 v) 0 (forest_count_of net)
        (λ f low high. let h : f < forest_count_of net = omega arith in
        rw (in_forest net (λ f. (stages net f q).0 v) f h, in_forest net (λ f. (stages net f q).1 v) f h, parent_is f h) refl)

    before_is : next_kept (state_while_reducing net q v) (reduction_of (q + 3)) ≡ by_forest net (λ f. (stages net f (suc q)).1 v)
    unfolding stages
    before_is = range-members _ (λ f. (stages net f (suc q)).1 v) 0 (forest_count_of net)
        (λ f low high. let h : f < forest_count_of net = omega arith in
        rw (in_forest net (λ f. (stages net f q).0 v) f h, in_forest net (λ f. (stages net f q).1 v) f h) refl)

    pub worked_next : next (state_while_reducing net q v) (q + 3) (map (λ w. tells net q w v) (neighbours net v)) ≡ Ok (
      state_while_reducing net (suc q) v,
      map (tells net (suc q) v) (neighbours net v),
    )
    unfolding inbox
    worked_next =
        let came : map (λ w. tells net q w v) (neighbours net v) ≡ inbox =
        map-members (λ w. tells net q w v) (λ w. told w v) (neighbours net v) (λ k h. tells-told (neighbour_of net v k) v) in
        let ports : ports_refusal (state_while_reducing net q v) (Work (reduction_of (q + 3))) 0 [] (map (role_of net v) (neighbours net v)) inbox ≡ None =
        ports_none (state_while_reducing net q v) (Work (reduction_of (q + 3))) (role_of net v) (λ w. told w v) (neighbours net v)
        (λ k h earlier. port_fine k h earlier (role_of net v (neighbour_of net v k)) refl) 0 [] in
        let none : own_rule (state_while_reducing net q v) (Work (reduction_of (q + 3))) inbox ≡ None =
        no_own_rule (state_while_reducing net q v) (reduction_of (q + 3)) inbox (any-none (is_above (reduction_of (q + 3))) (λ f. own f v)
        (range_with_len 0 (forest_count_of net)) (λ f. (sound net forest f q early).below v)) in
        let done_is : next (state_while_reducing net q v) (q + 3) inbox ≡ Ok (work_of (state_while_reducing net q v) (Work (reduction_of (q + 3))) inbox) =
        accepted (state_while_reducing net q v) (q + 3) (Work (reduction_of (q + 3))) inbox
        (phase_work (sizes_of net) (q + 3) (omega arith) (omega arith)) ports none in
        rw came (done_is
        ∙ (ap (λ cs. Ok (with_colours (state_while_reducing net q v) (reduction_of (q + 3)) cs
        (next_kept (state_while_reducing net q v) (reduction_of (q + 3))))) colours_are
        ∙ (ap (λ bs. Ok (with_colours (state_while_reducing net q v) (reduction_of (q + 3)) (by_forest net (λ f. (stages net f (suc q)).0 v)) bs)) before_is
        ∙ ap (λ out. Ok (state_while_reducing net (suc q) v, out)) (sent_if (is_last (reduction_of (q + 3))) (suc q == 10)
        (tells_colour (by_forest net (λ f. (stages net f (suc q)).0 v))) (role_of net v) (neighbours net v) (last-is q early)))))

  -- All nodes that stand after one pulse stand after the next.
  pub work_step : (nodes : ℕ → Node × List (Option Payload)) → ((w : ℕ) → IsVertex net w →
      nodes w ≡ (state_while_reducing net q w, map (tells net q w) (neighbours net w))) → (v : ℕ) → IsVertex net v →
      next (nodes v).0 (q + 3) (inbox_from net nodes v) ≡ Ok (state_while_reducing net (suc q) v, map (tells net (suc q) v) (neighbours net v))
  work_step nodes stand v is_vertex =
      let came : inbox_from net nodes v ≡ map (λ w. tells net q w v) (neighbours net v) =
      inbox_is net ok nodes (tells net q) (λ w h. ap (λ node. node.1) (stand w h)) v is_vertex in
      let state : (nodes v).0 ≡ state_while_reducing net q v = ap (λ node. node.0) (stand v is_vertex) in
      ap (λ node. next node (q + 3) (inbox_from net nodes v)) state ∙ (ap (λ inbox. next (state_while_reducing net q v) (q + 3) inbox) came ∙
      worked_next v is_vertex)
