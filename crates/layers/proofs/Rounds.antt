-- What is sent and what comes in the synchronous run of the layers.
use Rattle.std.proofs.Common.{◌≡◌, ℕ, zero, suc, ◌-◌, ◌<◌, ◌≤◌, List, refl, ap, sym, subst, ◌∙◌, arith, inl, inr, true, replicate}
use Rattle.std.specs.Prelude.{Option, Some, None, Result, Ok}
use Rattle.std.proofs.lemmas.List.{get_or-map, get_or-replicate}
use Rattle.std.proofs.lemmas.Bool.{cases_Bool}
use Rattle.interference.specs.Net.{Net, IsNetwork, IsVertex, count_of, degree_of, neighbours, neighbour_of, port_to}
use Rattle.node_api.specs.Boxes.{at_port}
use Rattle.node_api.specs.Run.{node_at, inbox_from, after}
use Rattle.node_api.specs.declared.program.Refused.{Refused}
use Rattle.node_api.proofs.Runs.{node_at-none, node_at-more, node_at-ports}
use Rattle.layers.specs.declared.hops.Hops.{Hops}
use Rattle.layers.specs.Layered.{Layered}
use Rattle.layers.specs.Layering.{is_due, layered_after, layering, next_from, sends, with_sent}
use Rattle.layers.specs.LayeringLaws.{comes, layering_ports, said}
use Rattle.layers.proofs.Heard.{Hears, hears}
use Rattle.layers.proofs.Steps.{sends-due, sends-undue}

module _ (net : Net) (ok : IsNetwork net) where
  abbrev pub node : ℕ → ℕ → Layered × List (Option Hops)
  node p v = node_at layering net p v

  -- what a pulse more makes of a node: what it heard, and what that says of its inbox
  abbrev Stepped : ℕ → ℕ → Option ℕ → Type 0
  Stepped p v first = (node (suc p) v ≡ with_sent (suc p) (layered_after (node p v).0 (suc p) first))
      × Hears (suc p) 0 (inbox_from net (node p) v) first

  pub step : (p v : ℕ) → p < count_of net - 1 → (first : Option ℕ) × Stepped p v first
  step p v early =
      let s : Layered = (node p v).0 in
      let inbox : List (Option Hops) = inbox_from net (node p) v in
      let in_time : suc p ≤ s.last = omega (arith, early, (said net p v).knows) in
      let (first, is, what) = hears s.last (suc p) 0 inbox in_time (λ k x below at. omega (arith, comes net p v k x below at)) in
      let new : node (suc p) v ≡ after s (degree_of net v) (next_from s (suc p) (Ok first)) =
      node_at-more layering net p v
      ∙ ap (λ (r : Result (Option ℕ) Refused). after s (degree_of net v) (next_from s (suc p) r)) is in
      (first, (new, what))

  -- the outbox of the run holds what the state there sends
  out : (p v : ℕ) → p < count_of net - 1 → (node p v).1 ≡ sends p (node p v).0
  out zero v early = subst (λ (n : Layered × List (Option Hops)). n.1 ≡ sends 0 n.0) (sym (node_at-none layering net v)) refl
  out (suc p) v early =
      let (first, (new, what)) = step p v (omega (arith, early)) in
      subst (λ (n : Layered × List (Option Hops)). n.1 ≡ sends (suc p) n.0) (sym new) refl

  -- what is at a port of an inbox was sent by the neighbour there
  slot : (p v k : ℕ) → p < count_of net - 1 → k < degree_of net v → at_port (inbox_from net (node p) v) k
      ≡ at_port (sends p (node p (neighbour_of net v k)).0) (port_to net (neighbour_of net v k) v)
  slot p v k early below =
      let w : ℕ = neighbour_of net v k in
      get_or-map (λ (u : ℕ). at_port (node p u).1 (port_to net u v)) (neighbours net v) k 0 None below
      ∙ ap (λ (sent : List (Option Hops)). at_port sent (port_to net w v)) (out p w early)

  there : (p v k : ℕ) (x : Option Hops) → IsVertex net v → p < count_of net - 1 → k < degree_of net v
      → sends p (node p (neighbour_of net v k)).0 ≡ replicate (node p (neighbour_of net v k)).0.degree x
      → at_port (inbox_from net (node p) v) k ≡ x
  there p v k x vertex early below all =
      let w : ℕ = neighbour_of net v k in
      let s : Layered = (node p w).0 in
      let shape : s.degree ≡ degree_of net w = (node_at-ports layering net layering_ports p w).0 in
      slot p v k early below
      ∙ (ap (λ (sent : List (Option Hops)). at_port sent (port_to net w v)) all
      ∙ get_or-replicate s.degree (port_to net w v) x None (omega (arith, shape, ok.symmetric v k vertex below)))

  -- a neighbour from which something comes was due, and one from which nothing comes wasn't
  pub due-if : (p v k : ℕ) (x : Hops) → IsVertex net v → p < count_of net - 1 → k < degree_of net v → at_port (inbox_from net (node p) v) k ≡ Some x
      → is_due (node p (neighbour_of net v k)).0.layer p ≡ true
  due-if p v k x vertex early below at =
      let s : Layered = (node p (neighbour_of net v k)).0 in
      elim (cases_Bool (is_due s.layer p)) [
        | inl due ↦ due
        | inr undue ↦ let none : None ≡ Some x = sym (there p v k None vertex early below (sends-undue p s undue)) ∙ at in absurd (cc)
      ]

  pub undue-if : (p v k : ℕ) → IsVertex net v → p < count_of net - 1 → k < degree_of net v
      → at_port (inbox_from net (node p) v) k ≡ None → is_due (node p (neighbour_of net v k)).0.layer p ≡ true → ⊥
  undue-if p v k vertex early below at due =
      let w : ℕ = neighbour_of net v k in
      let s : Layered = (node p w).0 in
      let x : Hops = record { 0 = p } in
      let sent = sends-due p s (omega (arith, (said net p w).knows)) due in
      let some : None ≡ Some x = sym at ∙ there p v k (Some x) vertex early below sent in absurd (cc)
