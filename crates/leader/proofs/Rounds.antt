-- What is sent and what comes in the synchronous run of the election.
use Rattle.std.proofs.Common.{◌≡◌, ℕ, zero, suc, ◌<◌, ◌≤◌, List, refl, ap, sym, subst, ◌∙◌, arith, inl, inr, replicate}
use Rattle.std.specs.Prelude.{Option, Some, None, Result, Ok, ◌⊎◌}
use Rattle.std.proofs.lemmas.List.{get_or-map, get_or-replicate}
use native.Mathlib.Decide.{dec_lt}
use Prim.{yes, no}
use Rattle.interference.specs.Net.{Net, IsNetwork, IsVertex, count_of, degree_of, neighbours, neighbour_of, port_to}
use Rattle.node_api.specs.Boxes.{at_port, nothing}
use Rattle.node_api.specs.Run.{node_at, inbox_from, after}
use Rattle.node_api.specs.declared.program.Refused.{Refused}
use Rattle.node_api.proofs.Runs.{node_at-none, node_at-more, node_at-ports, length-inbox}
use Rattle.leader.specs.Elector.{Elector}
use Rattle.leader.specs.declared.candidate.Candidate.{Candidate}
use Rattle.leader.specs.Election.{election, next_from, sends, sends_new}
use Rattle.leader.specs.ElectionLaws.{election_ports, knows-last}
use Rattle.leader.proofs.Heard.{IsGreatest, hears, number}
use Rattle.leader.proofs.Steps.{sends-early, sends-new, sends-none}

module _ (net : Net) (ok : IsNetwork net) where
  abbrev pub node : ℕ → ℕ → Elector × List (Option Candidate)
  node p v = node_at election net p v

  -- the greatest identifier at every port
  abbrev ToAll : ℕ → ℕ → Type 0
  ToAll p w = (node p w).1 ≡ replicate (node p w).0.degree (Some (record { 0 = (node p w).0.best }))

  abbrev ToNone : ℕ → ℕ → Type 0
  ToNone p w = (node p w).1 ≡ nothing (node p w).0.degree

  -- what is sent before the last pulse: the greatest identifier, or nothing by a node that heard no greater one
  abbrev Said : ℕ → ℕ → Type 0
  Said zero w = ToAll zero w
  Said (suc q) w = ToAll (suc q) w ⊎ (((node (suc q) w).0.best ≡ (node q w).0.best) × ToNone (suc q) w)

  early : (p v : ℕ) → p < count_of net → p < (node p v).0.last
  early p v below = omega (arith, knows-last net p v)

  said-first : (v : ℕ) → 0 < count_of net → Said zero v
  said-first v some =
      let out : (node zero v).1 ≡ sends 0 (node zero v).0 =
      subst (λ (n : Elector × List (Option Candidate)). n.1 ≡ sends 0 n.0) (sym (node_at-none election net v)) refl in
      out ∙ sends-early 0 (node zero v).0 (early zero v some)

  -- what is at a port of an inbox was sent by the neighbour there
  slot : (p v k : ℕ) → k < degree_of net v → at_port (inbox_from net (node p) v) k
      ≡ at_port (node p (neighbour_of net v k)).1 (port_to net (neighbour_of net v k) v)
  slot p v k below = get_or-map (λ (u : ℕ). at_port (node p u).1 (port_to net u v)) (neighbours net v) k 0 None below

  shape : (p v : ℕ) → (node p v).0.degree ≡ degree_of net v
  shape p v = (node_at-ports election net election_ports p v).0

  pub told : (p v k : ℕ) → IsVertex net v → k < degree_of net v
      → ToAll p (neighbour_of net v k)
      → at_port (inbox_from net (node p) v) k ≡ Some (record { 0 = (node p (neighbour_of net v k)).0.best })
  told p v k vertex below all =
      let w : ℕ = neighbour_of net v k in
      let s : Elector = (node p w).0 in
      slot p v k below
      ∙ (ap (λ (out : List (Option Candidate)). at_port out (port_to net w v)) all
      ∙ get_or-replicate s.degree (port_to net w v) (Some (record { 0 = s.best })) None (omega (arith, shape p w, ok.symmetric v k vertex below)))

  untold : (p v k : ℕ) → IsVertex net v → k < degree_of net v
      → ToNone p (neighbour_of net v k)
      → at_port (inbox_from net (node p) v) k ≡ None
  untold p v k vertex below none =
      let w : ℕ = neighbour_of net v k in
      let s : Elector = (node p w).0 in
      let empty : Option Candidate = None in
      slot p v k below
      ∙ (ap (λ (out : List (Option Candidate)). at_port out (port_to net w v)) none
      ∙ get_or-replicate s.degree (port_to net w v) empty None (omega (arith, shape p w, ok.symmetric v k vertex below)))

  -- a pulse more: what is known is the greatest, and it is sent if it is new
  pub step : (p v : ℕ) → p < count_of net → IsGreatest (node p v).0.best (inbox_from net (node p) v) (node (suc p) v).0.best
      × ((node (suc p) v).1 ≡ sends_new (suc p) (node p v).0.best (node (suc p) v).0)
  step p v below =
      let s : Elector = (node p v).0 in
      let inbox : List (Option Candidate) = inbox_from net (node p) v in
      let (best, is, greatest) = hears s.last (suc p) s.best 0 inbox (early p v below) in
      let new : node (suc p) v ≡ after s (degree_of net v) (next_from s (suc p) (Ok best)) =
      node_at-more election net p v
      ∙ ap (λ (r : Result ℕ Refused). after s (degree_of net v) (next_from s (suc p) r)) is in
      subst (λ (n : Elector × List (Option Candidate)). IsGreatest s.best inbox n.0.best × (n.1 ≡ sends_new (suc p) s.best n.0)) (sym new) (greatest, refl)

  pub said : (p v : ℕ) → p < count_of net → Said p v
  said zero v below = said-first v below
  said (suc q) v below =
      let (is, out) = step q v (omega arith) in
      let old : ℕ = (node q v).0.best in
      let s : Elector = (node (suc q) v).0 in
      elim (dec_lt old s.best) [
        | yes more ↦ inl (out ∙ (sends-new (suc q) old s more ∙ sends-early (suc q) s (early (suc q) v below)))
        | no other ↦ inr (omega (arith, is.start), out ∙ sends-none (suc q) old s (omega arith))
      ]

  -- what comes from a neighbour is the greatest identifier that it knew
  pub from : (p v k : ℕ) (x : Candidate) → IsVertex net v → p < count_of net → k < degree_of net v
      → at_port (inbox_from net (node p) v) k ≡ Some x → x.0 ≡ (node p (neighbour_of net v k)).0.best
  from zero v k x vertex less below at = ap number (sym at ∙ told zero v k vertex below (said-first (neighbour_of net v k) less))
  from (suc q) v k x vertex less below at =
      elim (said (suc q) (neighbour_of net v k) less) [
        | inl all ↦ ap number (sym at ∙ told (suc q) v k vertex below all)
        | inr none ↦ let wrong : None ≡ Some x = sym (untold (suc q) v k vertex below none.1) ∙ at in absurd (cc)
      ]

  -- a pulse later a node knows what its neighbours knew, also if they were silent
  pub heard-of : (p v k : ℕ) → IsVertex net v → p < count_of net → k < degree_of net v
      → (node p (neighbour_of net v k)).0.best ≤ (node (suc p) v).0.best
  heard-of zero v k vertex less below =
      let w : ℕ = neighbour_of net v k in
      (step zero v less).0.each k (record { 0 = (node zero w).0.best }) (omega (arith, length-inbox net (node zero) v))
      (told zero v k vertex below (said-first w less))
  heard-of (suc q) v k vertex less below =
      let w : ℕ = neighbour_of net v k in
      elim (said (suc q) w less) [
        | inl all ↦ (step (suc q) v less).0.each k (record { 0 = (node (suc q) w).0.best })
            (omega (arith, length-inbox net (node (suc q)) v)) (told (suc q) v k vertex below all)
        | inr none ↦ omega (arith, none.0, heard-of q v k vertex (omega arith) below, (step (suc q) v less).0.start)
      ]
