-- The sweeps, one after the other: with which colours each begins, and to which the last one leads.
use Rattle.std.proofs.Common.{◌≡◌, ◌≢◌, ℕ, zero, suc, ◌+◌, ◌-◌, ◌*◌, ◌%◌, ◌≤◌, ◌==◌, Bool, true, false, List, [], ap, sym, ◌∙◌, arith, subst, refl}
use Rattle.std.proofs.lemmas.Bool.{ne_eqb}
use Rattle.std.proofs.Math.Nat.{suc-mul}
use Rattle.std.specs.Prelude.{if◌then◌else◌, map, Contains, Option, None}
use Rattle.interference.specs.Net.{Net, IsBarred, IsNetwork, IsVertex, degree_of, forest_count_of, neighbours, span_of}
use Rattle.interference.proofs.Neighbours.{port-of}
use Rattle.node_api.specs.Boxes.{nothing}
use Rattle.node_api.specs.Program.{sizes_of}
use Rattle.node_api.proofs.Repeated.{node_at-repeated}
use Rattle.followed.specs.Followed.{Both}
use Rattle.followed.specs.Said.{said}
use Rattle.followed.specs.RunLaws.{said-nothing, same_run}
use Rattle.node_api.proofs.Outboxes.{same-for_all}
use Rattle.colour_rules.specs.declared.payload.Payload.{Payload}
use Rattle.colour_rules.specs.Node.{Node}
use Rattle.colour_rules.specs.Program.{colouring}
use Rattle.colour_laws.specs.Colours.{colours}
use Rattle.colour_laws.proofs.Choices.{colours_unbarred, colours_within}
use Rattle.colour_laws.proofs.Forests.{has_forest, has_start}
use Rattle.colour_laws.proofs.Proper.{colours_proper}
use Rattle.colour_laws.proofs.Starts.{colour_at_last}
use Rattle.recolouring.specs.declared.anew.Anew.{Anew}
use Rattle.recolouring.specs.Knowing.{Recoloured, Wire, has_bars, recolouring, recolours, rises, sweeps}
use Rattle.recolouring.specs.ProgramLaws.{at, coloured, cut, one-more, recolours_cut, silent_sweep, sweeps-more}
use Rattle.recolouring.specs.Texts.{plan_of_passes}
use Rattle.recolouring.proofs.Plans as plans
use Rattle.recolouring.proofs.Run as run

pub inside-of : (net : Net) → IsNetwork net → (v w : ℕ) → IsVertex net v → Contains (neighbours net v) w → IsVertex net w
inside-of net ok v w is_vertex near =
    let port = port-of net ok v w near in subst (IsVertex net) port.2 (ok.vertices v port.0 is_vertex port.1)

module _ (net : Net) (ok : IsNetwork net) where
  abbrev span : ℕ
  span = span_of net

  -- the colour with which a node comes into sweep k, and the one that it chooses there
  abbrev pub old : ℕ → ℕ → ℕ
  old k v = run.old net ok k v

  abbrev pub new : ℕ → ℕ → ℕ
  new k v = run.new net ok k v

  -- the pulse after which sweep k begins
  abbrev start : ℕ → ℕ
  start k = cut net ok + (k * (span + 1) + 0)

  abbrev Low : ℕ → Type 0
  Low k = (v : ℕ) → IsVertex net v → old k v ≤ span

  abbrev Differ : ℕ → Type 0
  Differ k = (v w : ℕ) → IsVertex net v → Contains (neighbours net v) w → old k v ≢ old k w

  abbrev Allowed : ℕ → Type 0
  Allowed k = (v : ℕ) → IsVertex net v → IsBarred net v (old k v) → ⊥

  abbrev Quiet : ℕ → Type 0
  Quiet k = (v : ℕ) → IsVertex net v → (at net ok (start k) v).1 ≡ nothing (degree_of net v)

  next-start : (k : ℕ) → start (suc k) ≡ cut net ok + (k * (span + 1) + suc span)
  next-start k = let e : suc k * (span + 1) ≡ k * (span + 1) + (span + 1) = suc-mul k (span + 1) in omega (arith, e)

  -- the first sweep begins with the colours of the network
  pub first-old : (v : ℕ) → IsVertex net v → old 0 v ≡ colours net v
  first-old v is_vertex =
      let s : Recoloured = (at net ok (start 0) v).0.beside in
      let none : 0 * (span + 1) + 0 ≡ 0 = omega arith in
      ap (λ (t : Recoloured). t.before) (run.entered net ok 0 v)
      ∙ (ap (λ (n : ℕ). if n == 0 then (coloured net ok v).merged else s.colour) none
      ∙ (colour_at_last net ok (has_forest net ok) (has_start net ok) v is_vertex).0)

  first-quiet : Quiet 0
  first-quiet v is_vertex =
      subst (λ (n : ℕ). (at net ok n v).1 ≡ nothing (degree_of net v)) (let e : cut net ok ≡ start 0 = omega arith in e)
      (ap (λ (next : Both Node Recoloured × List (Option Wire)). next.1)
      (same_run colouring recolours recolours_cut net ok (cut net ok) v is_vertex (omega arith))
      ∙ (ap (map (said {A = Payload} {B = Anew}))
      ((colour_at_last net ok (has_forest net ok) (has_start net ok) v is_vertex).1 ∙ sym (same-for_all None (neighbours net v)))
      ∙ said-nothing {A = Payload} {B = Anew} (degree_of net v)))

  -- each later one with those to which the sweep before led
  next-old : (k : ℕ) → Low k → Quiet k → (v : ℕ) → IsVertex net v → old (suc k) v ≡ new k v
  next-old k low quiet v is_vertex =
      let s : Recoloured = (at net ok (start (suc k)) v).0.beside in
      let d : ℕ = suc k * (span + 1) + 0 in
      let more : suc k * (span + 1) ≡ k * (span + 1) + (span + 1) = suc-mul k (span + 1) in
      let past : (d == 0) ≡ false = ne_eqb d 0 (λ none. omega (arith, more, none)) in
      ap (λ (t : Recoloured). t.before) (run.entered net ok (suc k) v)
      ∙ (ap (λ (b : Bool). if b then (coloured net ok v).merged else s.colour) past
      ∙ (ap (λ (n : ℕ). (at net ok n v).0.beside.colour) (next-start k) ∙ run.last-colour net ok k low quiet v is_vertex))

  next-quiet : (k : ℕ) → Quiet (suc k)
  next-quiet k v is_vertex =
      let more : (k + 1) * (span + 1) ≡ k * (span + 1) + (span + 1) = one-more k (span + 1) in
      let same : cut net ok + (k + 1) * (span + 1) ≡ start (suc k) = omega (arith, more, next-start k) in
      subst (λ (n : ℕ). (at net ok n v).1 ≡ nothing (degree_of net v)) same (silent_sweep net ok k v is_vertex)

  -- so each begins with colours that are within the span, differ on every edge and aren't barred, and with nothing on its way
  pub entered : (k : ℕ) → Low k × Differ k × Allowed k × Quiet k
  entered zero = (
    λ v is_vertex. let low : colours net v ≤ span = colours_within net (has_forest net ok) (forest_count_of net) v in
        omega (arith, first-old v is_vertex, low),
    λ v w is_vertex near same. colours_proper net ok v w is_vertex near
        (sym (first-old v is_vertex) ∙ (same ∙ first-old w (inside-of net ok v w is_vertex near))),
    λ v is_vertex barred. colours_unbarred net (has_forest net ok) (forest_count_of net) v (subst (IsBarred net v) (first-old v is_vertex) barred),
    first-quiet,
  )
  entered (suc k) =
      let begun = entered k in
      let next : (v : ℕ) → IsVertex net v → old (suc k) v ≡ new k v = next-old k begun.0 begun.3 in (
        λ v is_vertex. omega (arith, next v is_vertex, plans.new-low net ok k begun.0 begun.1 begun.2 begun.3 v is_vertex),
        λ v w is_vertex near same. plans.proper net ok k begun.0 begun.1 begun.2 begun.3 v w is_vertex near
            (sym (next v is_vertex) ∙ (same ∙ next w (inside-of net ok v w is_vertex near))),
        λ v is_vertex barred. plans.unbarred net ok k begun.0 begun.1 begun.2 begun.3 v is_vertex
            (subst (IsBarred net v) (next v is_vertex) barred),
        next-quiet k,
      )

  -- the colours after sweep k
  pub at-last : (k v : ℕ) → IsVertex net v → (at net ok (cut net ok + (k + 1) * (span + 1)) v).0.beside.colour ≡ new k v
  at-last k v is_vertex =
      let begun = entered k in
      let more : (k + 1) * (span + 1) ≡ k * (span + 1) + (span + 1) = one-more k (span + 1) in
      let same : cut net ok + (k + 1) * (span + 1) ≡ cut net ok + (k * (span + 1) + suc span) = omega (arith, more) in
      ap (λ (n : ℕ). (at net ok n v).0.beside.colour) same ∙ run.last-colour net ok k begun.0 begun.3 v is_vertex

  -- no sweep leads to a colour above the greatest one with which it begins, nor do several
  pub no_greater : (greatest k d : ℕ) → ((w : ℕ) → IsVertex net w → old k w ≤ greatest) → (v : ℕ) → IsVertex net v → new (k + d) v ≤ greatest
  no_greater greatest k zero most v is_vertex =
      let begun = entered k in
      let same : k + 0 ≡ k = omega arith in
      subst (λ (n : ℕ). new n v ≤ greatest) (sym same)
      (plans.no_greater net ok k begun.0 begun.1 begun.2 begun.3 greatest most v is_vertex)
  no_greater greatest k (suc d) most v is_vertex =
      let n : ℕ = k + d in
      let before = entered n in
      let begun = entered (suc n) in
      let same : k + suc d ≡ suc n = omega arith in
      subst (λ (m : ℕ). new m v ≤ greatest) (sym same)
      (plans.no_greater net ok (suc n) begun.0 begun.1 begun.2 begun.3 greatest
      (λ w inside. let bound : new n w ≤ greatest = no_greater greatest k d most w inside in
      omega (arith, next-old n before.0 before.3 w inside, bound))
      v is_vertex)

  abbrev pub barring : Bool
  barring = has_bars (sizes_of net)

  -- how many sweeps a pass has
  abbrev pub size : ℕ
  size = sweeps (sizes_of net)

  -- the last sweep of pass k, from 0
  abbrev pub end-of : ℕ → ℕ
  end-of k = (sweeps-more k (sizes_of net)).0

  -- the last pulse of pass k
  pulse-end : (k : ℕ) → cut net ok + (end-of k + 1) * (span + 1) ≡ cut net ok + (k + 1) * size * (span + 1)
  pulse-end k = ap (λ (n : ℕ). cut net ok + n * (span + 1)) (sym (sweeps-more k (sizes_of net)).1)

  pub at-end : (k v : ℕ) → IsVertex net v → (at net ok (cut net ok + (k + 1) * size * (span + 1)) v).0.beside.colour ≡ new (end-of k) v
  at-end k v is_vertex =
      ap (λ (n : ℕ). (at net ok n v).0.beside.colour) (sym (pulse-end k)) ∙ at-last (end-of k) v is_vertex

  -- the classes don't rise in the last sweep of a pass
  falls-by : (b : Bool) (k n : ℕ) → n ≡ k * (if b then 2 else 1) + ((if b then 2 else 1) - 1) → rises b n ≡ false
  falls-by true k n e = ne_eqb (n % 2) 0 (λ even. omega (arith, e, even))
  falls-by false k n e = refl

  pub falls : (k : ℕ) → rises barring (end-of k) ≡ false
  falls k = falls-by barring k (end-of k) (sweeps-more k (sizes_of net)).2

  pub end-is : (k : ℕ) → end-of k ≡ k * size + (size - 1)
  end-is k = (sweeps-more k (sizes_of net)).2

  -- without bars each pass is a sweep
  one-by : (b : Bool) (k : ℕ) → b ≡ false → k * (if b then 2 else 1) + ((if b then 2 else 1) - 1) ≡ k
  one-by true k e = absurd cc
  one-by false k e = omega arith

  pub one-sweep : barring ≡ false → (k : ℕ) → end-of k ≡ k
  one-sweep none k = end-is k ∙ one-by barring k none

  start-by : (b : Bool) (k : ℕ) → b ≡ false → k ≡ k * (if b then 2 else 1)
  start-by true k e = absurd cc
  start-by false k e = omega arith

  pub one-start : barring ≡ false → (k : ℕ) → end-of k ≡ k * size
  one-start none k = one-sweep none k ∙ start-by barring k none

  -- a pass begins with the plan of as many passes
  pub old-is : (k v : ℕ) → IsVertex net v → old (k * size) v ≡ plan_of_passes k net v
  old-is zero v is_vertex = ap (λ (n : ℕ). old n v) (let e : 0 * size ≡ 0 = omega arith in e) ∙ first-old v is_vertex
  old-is (suc k) v is_vertex =
      let n : ℕ = end-of k in
      let begun = entered n in
      let same : suc k * size ≡ suc n = omega (arith, (sweeps-more k (sizes_of net)).1, suc-mul k size, one-more k size) in
      ap (λ (m : ℕ). old m v) same
      ∙ (next-old n begun.0 begun.3 v is_vertex
      ∙ (sym (at-end k v is_vertex)
      ∙ ap (λ (node : Both Node Recoloured × List (Option Wire)). node.0.beside.colour)
      (sym (node_at-repeated recolouring k net (cut net ok + (k + 1) * size * (span + 1)) v))))
